use Rattle.q_same_steps.proofs.MadeSteps.{valid-applies}
use Rattle.q_same_steps.proofs.laws.valid_steps_are_made.Goals as goal

pub returns : goal.returns
returns c = valid-applies
