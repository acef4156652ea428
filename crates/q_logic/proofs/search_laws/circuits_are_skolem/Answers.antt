use Rattle.q_logic.proofs.PickedCircuits.{circuits-skolem}
use Rattle.q_logic.proofs.search_laws.circuits_are_skolem.Goals as goal

pub returns : goal.returns
returns c = circuits-skolem
