use Rattle.std.proofs.Common.{ℕ}
use Rattle.q_logic.specs.Prelude.{IsIn}
use Rattle.q_kernel.specs.Prelude.{slots}
use Rattle.q_reduce.specs.Paths.{IsNear}
use Rattle.q_reduce.proofs.sides.put_around.Given as goal

abbrev pub invariant-loop-at : goal.invariant-loop-at
invariant-loop-at l = (y : ℕ) → IsIn y l.list.items → IsNear l.kernel.prefix (slots l.kernel) l.u l.fn.list.items y
