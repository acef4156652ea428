use Rattle.std.proofs.Common.{◌≡◌, take}
use Rattle.q_logic.specs.Exchanging.{exchanged}
use Rattle.q_resolve.proofs.seats.exchange.Given as goal

abbrev pub invariant-loop-at : goal.invariant-loop-at
invariant-loop-at l = l.made.items ≡ exchanged (take l.at l.prefix)
