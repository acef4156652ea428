use Rattle.q_logic.proofs.Falsity.{false-herbrand, herbrand-false}
use Rattle.q_logic.proofs.herbrands.falsity_is_herbrand.Goals as goal

pub returns : goal.returns
returns c F f = (false-herbrand F f, λ s. herbrand-false F s.0 f s.1)
