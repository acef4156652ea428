use Rattle.q_aig.proofs.ConeSearch.{queue-tail, explored}
use Rattle.q_aig.proofs.cones.search.Goals as goal

pub clear-requires-clause-tail : goal.clear-requires-clause-tail
clear-requires-clause-tail c = queue-tail _ _ _ c.explore-reached.ensures.rows

pub returns-clause-found : goal.returns-clause-found
returns-clause-found c = explored _ _ _ _ _ _ _ c.explore-reached.ensures
