use Rattle.std.proofs.Common.{◌≡◌, take, true}
use Rattle.q_logic.specs.Prelude.{Literal, IsIn, is_bound}
use Rattle.q_judge.proofs.checks.binds_all.Given as goal

abbrev pub invariant-loop-k : goal.invariant-loop-k
invariant-loop-k l = (j : Literal) → IsIn j (take l.k-index l.clause) → is_bound l.scope j.var ≡ true
