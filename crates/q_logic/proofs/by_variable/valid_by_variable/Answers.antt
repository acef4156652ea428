use Rattle.q_logic.proofs.ByVariable.{step-valid, steps-valid}
use Rattle.q_logic.proofs.by_variable.valid_by_variable.Goals as goal

pub returns : goal.returns
returns c = record { one = step-valid; all = steps-valid }
