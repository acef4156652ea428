use Rattle.q_logic.proofs.Soundness.{has_skolem, from_skolem}
use Rattle.q_logic.proofs.laws.truth_is_skolem.Goals as goal

pub returns : goal.returns
returns c F f = (has_skolem F f, λ s. from_skolem F s.0 f s.1)
