use Rattle.q_logic.proofs.Propagation.{saturated-conflicts}
use Rattle.q_logic.proofs.laws.saturated_conflicts.Goals as goal

pub returns : goal.returns
returns c = saturated-conflicts
