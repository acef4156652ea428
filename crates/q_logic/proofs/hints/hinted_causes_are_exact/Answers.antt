use Rattle.q_logic.proofs.HintedCauses.{HintedValid-no_cause, not_shown-cause, HintedCause-one}
use Rattle.q_logic.proofs.hints.hinted_causes_are_exact.Goals as goal

pub returns : goal.returns
returns c = record { none = HintedValid-no_cause; some = not_shown-cause; one = HintedCause-one }
