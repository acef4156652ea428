use Rattle.q_logic.proofs.Validity.{Valid-no_cause, not_valid-cause, Cause-one}
use Rattle.q_logic.proofs.laws.causes_are_exact.Goals as goal

pub returns : goal.returns
returns c = record { none = Valid-no_cause; some = not_valid-cause; one = Cause-one }
