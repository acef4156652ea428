use Rattle.std.proofs.Common.{refl}
use Rattle.q_logic.specs.Prelude.{plain}
use Rattle.q_run_show.specs.Readings.{turn}
use Rattle.q_run_show.proofs.ShownSteps.{takes-other, unfit}
use Rattle.q_run_show.proofs.scribe.Scribe.pass.Goals as goal

pub returns-in-Ok-clause-takes : goal.returns-in-Ok-clause-takes
returns-in-Ok-clause-takes c =
    takes-other c.args.step.now c.args.self.now _ c.requires.under_way c.requires.turn c.in-Ok.ensures.made c.in-Ok.ensures.limits c.in-Ok.ensures.steps refl refl refl

pub returns-in-Err-clause-refused : goal.returns-in-Err-clause-refused
returns-in-Err-clause-refused c =
    unfit (turn c.args.self.now) c.requires.turn c.step_refusal.result c.args.self.now.annotator.limits (plain c.args.self.now.annotator.formula) c.args.line c.args.step.now c.in-Err.unfit c.step_refusal.ensures.is
    c.requires.under_way.annotator.limits c.in-Err.ensures.refused
