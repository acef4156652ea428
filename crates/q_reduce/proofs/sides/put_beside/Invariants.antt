use Rattle.std.proofs.Common.{ℕ, ◌⊎◌}
use Rattle.q_logic.specs.Prelude.{IsIn}
use Rattle.q_kernel.specs.Prelude.{slots}
use Rattle.q_reduce.specs.Paths.{AreJoined, Lacks}
use Rattle.q_reduce.proofs.sides.put_beside.Given as goal

abbrev pub invariant-loop-k : goal.invariant-loop-k
invariant-loop-k l = (y : ℕ) → IsIn y l.list.items → IsIn y l.fn.list.items ⊎ (AreJoined l.kernel.prefix (slots l.kernel) l.u.var l.c y × Lacks (slots l.kernel) y l.u)
