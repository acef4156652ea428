use Rattle.std.proofs.Common.{refl}
use Rattle.q_logic.specs.Prelude.{plain}
use Rattle.q_run_show.specs.Readings.{turn}
use Rattle.q_run_show.proofs.ShownSteps.{convicted, takes-own}
use Rattle.q_run_show.proofs.scribe.Scribe.show.Goals as goal

pub returns-in-Ok-push_hinted-clause-takes : goal.returns-in-Ok-push_hinted-clause-takes
returns-in-Ok-push_hinted-clause-takes c =
    takes-own c.args.step.now c.in-Ok.proof c.args.self.now _ c.requires.under_way c.requires.turn c.in-Ok.ensures.part c.in-Ok.ensures.may c.in-Ok.ensures.after c.in-Ok.ensures.limits c.in-Ok.ensures.steps
    refl c.in-Ok-push_hinted.ensures.ok refl

pub returns-clause-refused : goal.returns-clause-refused
returns-clause-refused c =
    convicted (turn c.args.self.now) c.requires.turn c.step_refusal.result (plain c.args.self.now.annotator.formula) c.args.line c.args.step.now c.in-Err.error c.step_refusal.ensures.is c.in-Err.ensures.refused
