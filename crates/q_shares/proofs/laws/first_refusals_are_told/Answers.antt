use Rattle.q_shares.proofs.SharedRuns.{wrong-refused, first-wrong}
use Rattle.q_shares.proofs.laws.first_refusals_are_told.Goals as goal

pub returns : goal.returns
returns c = record { told = wrong-refused; right = first-wrong }
