use Rattle.std.proofs.Common.{◌≢◌, take}
use Rattle.q_logic.specs.Prelude.{Literal, IsIn}
use Rattle.q_watch.proofs.visit.other_outside.Given as goal

abbrev pub invariant-loop-j : goal.invariant-loop-j
invariant-loop-j l = (i : Literal) → IsIn i (take l.j-index l.clause) → i ≢ l.other → IsIn i l.set
