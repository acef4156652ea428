use Rattle.q_rebuild.proofs.SkolemAccepted.{skolem-accepted}
use Rattle.q_rebuild.proofs.laws.skolem_functions_are_accepted.Goals as goal

pub returns : goal.returns
returns c = skolem-accepted
