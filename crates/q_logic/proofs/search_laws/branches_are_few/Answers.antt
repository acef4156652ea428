use Rattle.q_logic.proofs.HitNodes.{few-branches}
use Rattle.q_logic.proofs.search_laws.branches_are_few.Goals as goal

pub returns : goal.returns
returns c = few-branches
