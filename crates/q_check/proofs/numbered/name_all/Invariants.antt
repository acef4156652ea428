use Rattle.std.proofs.Common.{take}
use Rattle.q_check.specs.Numbers.{AreNumbersOf}
use Rattle.q_check.proofs.numbered.name_all.Given as goal

abbrev pub invariant-loop-slot : goal.invariant-loop-slot
invariant-loop-slot l = AreNumbersOf l.numbers (take l.slot-index l.slots) l.names.items
