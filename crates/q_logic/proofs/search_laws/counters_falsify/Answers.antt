use Rattle.q_logic.proofs.HitNodes.{counter-denies}
use Rattle.q_logic.proofs.search_laws.counters_falsify.Goals as goal

pub returns : goal.returns
returns c = counter-denies
