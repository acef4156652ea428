use Rattle.q_offences.proofs.FirstOffences.{offence-where, formula-where}
use Rattle.q_offences.proofs.laws.formulas_or_offences.Goals as goal

pub returns : goal.returns
returns c = record { offence = offence-where; none = formula-where }
