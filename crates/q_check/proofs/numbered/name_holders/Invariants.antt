use Rattle.std.proofs.Common.{take}
use Rattle.q_check.specs.Numbers.{HaveNamed}
use Rattle.q_check.proofs.numbered.name_holders.Given as goal

abbrev pub invariant-loop-i : goal.invariant-loop-i
invariant-loop-i l = HaveNamed l.numbers (take l.i l.slots) l.skip l.names.items
