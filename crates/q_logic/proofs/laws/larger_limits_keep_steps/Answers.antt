use Rattle.q_logic.proofs.Validity.{Valid-larger, ValidSteps-larger}
use Rattle.q_logic.proofs.laws.larger_limits_keep_steps.Goals as goal

pub returns : goal.returns
returns c = record { one = Valid-larger; all = λ m n F E ss. ValidSteps-larger m n F ss E }
