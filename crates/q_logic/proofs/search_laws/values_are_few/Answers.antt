use Rattle.q_logic.proofs.SearchCounts.{few}
use Rattle.q_logic.proofs.search_laws.values_are_few.Goals as goal

pub returns : goal.returns
returns c = few
