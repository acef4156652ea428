use Rattle.q_hinted.proofs.Profiles.{hinted-read, hinted-spelled}
use Rattle.q_hinted.proofs.law.hinted_grammar_is_read.Goals as goal

pub returns : goal.returns
returns c = λ limit bytes hs. (hinted-read limit bytes hs, hinted-spelled limit bytes hs)
