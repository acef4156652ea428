use Rattle.q_offences.proofs.LogRefusals.{both-first, both-whole}
use Rattle.q_offences.proofs.laws.hinted_log_offences_are_first.Goals as goal

pub returns : goal.returns
returns c = record { refused = both-first; whole = both-whole }
