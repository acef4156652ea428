use Rattle.q_offences.proofs.LogRefusals.{plain-first, plain-whole}
use Rattle.q_offences.proofs.laws.log_offences_are_first.Goals as goal

pub returns : goal.returns
returns c = record { refused = plain-first; whole = plain-whole }
