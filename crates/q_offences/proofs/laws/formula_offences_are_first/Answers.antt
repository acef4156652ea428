use Rattle.q_offences.proofs.FirstOffences.{offences-first}
use Rattle.q_offences.proofs.laws.formula_offences_are_first.Goals as goal

pub returns : goal.returns
returns c = offences-first
