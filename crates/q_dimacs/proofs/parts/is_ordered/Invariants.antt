use Rattle.std.proofs.Common.{take}
use Rattle.q_dimacs.proofs.RisingLiterals.{IsRising}
use Rattle.q_dimacs.proofs.parts.is_ordered.Given as goal

abbrev pub invariant-loop-i : goal.invariant-loop-i
invariant-loop-i l = IsRising (take l.i l.lits) l.last
