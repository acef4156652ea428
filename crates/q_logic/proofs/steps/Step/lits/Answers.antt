use Rattle.std.proofs.Common.{subst}
use Rattle.q_logic.specs.Prelude.{IsStep}
use Rattle.q_logic.proofs.StepForms.{step_of-IsStep}
use Rattle.q_logic.proofs.steps.Step.lits.Goals as goal

pub returns-clause-lawful : goal.returns-clause-lawful
returns-clause-lawful c = subst IsStep c.self.view_is (step_of-IsStep c.self.inside.kind c.self.inside.lits c.self.invariant.form)
