use Rattle.q_logic.proofs.HintChains.{chained-implied, implied-chained}
use Rattle.q_logic.proofs.hints.chained_is_implied.Goals as goal

pub returns : goal.returns
returns c = record { sound = chained-implied; complete = implied-chained }
