use Rattle.std.proofs.Common.{◌≤◌, drop}
use Rattle.q_logic.specs.Prelude.{Literal, pack, IsIn}
use Rattle.q_rule.proofs.places.skip_to.Given as goal

abbrev pub invariant-loop-at : goal.invariant-loop-at
invariant-loop-at l = (j : Literal) → pack l.k ≤ pack j → IsIn j (drop l.fn.from l.d) → IsIn j (drop l.at l.d)
