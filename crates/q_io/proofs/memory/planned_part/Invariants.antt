use Rattle.std.proofs.Common.{◌≡◌, drop}
use Rattle.q_io.specs.Memory.{part_of}
use Rattle.q_io.proofs.memory.planned_part.Given as goal

abbrev pub invariant-loop-fault : goal.invariant-loop-fault
invariant-loop-fault l = part_of l.planned l.call l.nth ≡ part_of (drop l.fault-index l.planned) l.call l.nth
