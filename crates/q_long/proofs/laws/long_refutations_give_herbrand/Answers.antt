use Rattle.q_long.proofs.Refuting.{long-herbrand, long-false}
use Rattle.q_long.proofs.laws.long_refutations_give_herbrand.Goals as goal

pub returns : goal.returns
returns c = record { herbrand = long-herbrand; falsity = long-false }
