use Rattle.q_hinted.proofs.HintedRoundTrip.{hinted-reread}
use Rattle.q_hinted.proofs.law.hinted_texts_are_read.Goals as goal

pub returns : goal.returns
returns c = hinted-reread
