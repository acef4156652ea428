use Rattle.std.proofs.Common.{take, Contains}
use Rattle.q_logic.specs.Prelude.{Literal, negation, IsIn}
use Rattle.q_judge.proofs.kept_walks.lacks_all.Given as goal

abbrev pub invariant-loop-k : goal.invariant-loop-k
invariant-loop-k l = (j : Literal) → IsIn j (take l.k-index l.clause) → Contains l.known (negation j) → ⊥
