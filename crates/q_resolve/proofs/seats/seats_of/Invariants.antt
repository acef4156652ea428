use Rattle.std.proofs.Common.{take}
use Rattle.q_resolve.specs.Seats.{AreSeats}
use Rattle.q_resolve.proofs.seats.seats_of.Given as goal

abbrev pub invariant-loop-i : goal.invariant-loop-i
invariant-loop-i l = AreSeats (take l.i l.prefix) l.seats.items
