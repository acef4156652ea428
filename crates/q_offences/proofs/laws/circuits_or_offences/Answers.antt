use Rattle.q_offences.proofs.CircuitFiles.{offence-where, circuits-where}
use Rattle.q_offences.proofs.laws.circuits_or_offences.Goals as goal

pub returns : goal.returns
returns c = record { offence = offence-where; none = circuits-where }
