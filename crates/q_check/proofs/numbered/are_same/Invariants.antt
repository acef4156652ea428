use Rattle.std.proofs.Common.{◌≡◌, take}
use Rattle.q_check.proofs.numbered.are_same.Given as goal

abbrev pub invariant-loop-i : goal.invariant-loop-i
invariant-loop-i l = take l.i l.clause ≡ take l.i l.lits
