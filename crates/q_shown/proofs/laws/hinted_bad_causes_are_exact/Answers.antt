use Rattle.q_shown.proofs.HintedRefuting.{hinted_made-no_cause, not_hinted-cause, hinted_cause-one}
use Rattle.q_shown.proofs.laws.hinted_bad_causes_are_exact.Goals as goal

pub returns : goal.returns
returns c = record { none = hinted_made-no_cause; some = not_hinted-cause; one = hinted_cause-one }
