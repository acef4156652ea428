use Rattle.q_shown.proofs.HintedRefuting.{hinted-number, number-hinted, hinted_number-one, hinted_not-both, hinted_either}
use Rattle.q_shown.proofs.laws.hinted_refuted_or_refused.Goals as goal

pub returns : goal.returns
returns c = record {
  number = λ m N hs. (hinted-number m N hs, λ r. number-hinted m N hs r.0 r.1);
  one = hinted_number-one;
  not_both = hinted_not-both;
  either = hinted_either;
}
