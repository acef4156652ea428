use Rattle.q_logic.proofs.Reduction.{by_variable-reducible}
use Rattle.q_logic.proofs.laws.reducible_by_variable.Goals as goal

pub returns : goal.returns
returns c = by_variable-reducible
