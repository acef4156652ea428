use Rattle.q_logic.proofs.Propagation.{implied-true}
use Rattle.q_logic.proofs.laws.implied_is_sound.Goals as goal

pub returns : goal.returns
returns c X S h A t = implied-true A X S h t
