use Rattle.std.proofs.Common.{refl}
use Rattle.q_logic.specs.Prelude.{plain}
use Rattle.q_run_annotate.specs.Readings.{turn}
use Rattle.q_run_annotate.proofs.WritableProofs.{passes}
use Rattle.q_run_annotate.proofs.AnnotatedSteps.{unfit}
use Rattle.q_run_annotate.proofs.scribe.Scribe.pass.Goals as goal

pub returns-in-Ok-clause-goes : goal.returns-in-Ok-clause-goes
returns-in-Ok-clause-goes c =
    passes c.args.step.now c.args.self.now _ c.requires.turn c.requires.under_way c.in-Ok.ensures.made c.in-Ok.ensures.limits c.in-Ok.ensures.steps refl refl refl

pub returns-in-Err-clause-refused : goal.returns-in-Err-clause-refused
returns-in-Err-clause-refused c =
    unfit (turn c.args.self.now) c.requires.turn c.step_refusal.result c.args.self.now.annotator.limits (plain c.args.self.now.annotator.formula) c.args.line c.args.step.now c.in-Err.unfit c.step_refusal.ensures.is c.requires.under_way.limits c.in-Err.ensures.refused
