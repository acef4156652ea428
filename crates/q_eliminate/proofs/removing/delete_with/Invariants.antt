use Rattle.q_logic.specs.Prelude.{size_of, live}
use Rattle.q_kernel.specs.Prelude.{slots}
use Rattle.q_eliminate.proofs.DeletedClauses.{IsShrinking}
use Rattle.q_eliminate.proofs.removing.delete_with.Given as goal

abbrev pub invariant-loop-id : goal.invariant-loop-id
invariant-loop-id l = IsShrinking l.lit l.fn.kernel l.kernel

abbrev pub decreases-loop-id : goal.decreases-loop-id
decreases-loop-id l = size_of (live (slots l.kernel))
