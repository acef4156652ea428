use Rattle.std.proofs.Common.{take}
use Rattle.q_herbrand.specs.Slots.{IsBegun}
use Rattle.q_herbrand.proofs.slots.begin.Given as goal

abbrev pub invariant-loop-place : goal.invariant-loop-place
invariant-loop-place l = IsBegun (take l.place l.names) l.slots
