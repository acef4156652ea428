use Rattle.q_offences.proofs.CircuitOffences.{circuits-first}
use Rattle.q_offences.proofs.laws.circuit_offences_are_first.Goals as goal

pub returns : goal.returns
returns c = circuits-first
