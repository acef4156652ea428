use Rattle.q_parts.proofs.CheckedParts.{checks-same}
use Rattle.q_parts.proofs.laws.same_words_are_checked_alike.Goals as goal

pub returns : goal.returns
returns c = checks-same
