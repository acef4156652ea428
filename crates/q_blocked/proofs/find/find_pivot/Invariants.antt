use Rattle.std.proofs.Common.{take}
use Rattle.q_blocked.proofs.BlockedSearch.{AreNone}
use Rattle.q_blocked.proofs.find.find_pivot.Given as goal

abbrev pub invariant-loop-l : goal.invariant-loop-l
invariant-loop-l l = AreNone l.kernel l.c (take l.l-index l.clause)
