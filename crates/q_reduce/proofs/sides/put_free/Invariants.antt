use Rattle.std.proofs.Common.{ℕ, ◌⊎◌}
use Rattle.q_logic.specs.Prelude.{IsIn}
use Rattle.q_kernel.specs.Prelude.{slots, HoldsLiteral}
use Rattle.q_reduce.specs.Paths.{Lacks}
use Rattle.q_reduce.proofs.sides.put_free.Given as goal

abbrev pub invariant-loop-d : goal.invariant-loop-d
invariant-loop-d l = (y : ℕ) → IsIn y l.list.items → IsIn y l.fn.list.items ⊎ (HoldsLiteral l.kernel y l.fn.lit × Lacks (slots l.kernel) y l.u)
