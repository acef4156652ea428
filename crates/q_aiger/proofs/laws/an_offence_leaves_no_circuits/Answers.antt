use Rattle.q_aiger.proofs.GateOrders.{offence-none}
use Rattle.q_aiger.proofs.laws.an_offence_leaves_no_circuits.Goals as goal

pub returns : goal.returns
returns c = offence-none
