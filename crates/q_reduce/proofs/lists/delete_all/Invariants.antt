use Rattle.q_logic.specs.Prelude.{size_of, live}
use Rattle.q_kernel.specs.Prelude.{slots}
use Rattle.q_rule.proofs.RemovalLoops.{IsDeleting}
use Rattle.q_reduce.proofs.lists.delete_all.Given as goal

abbrev pub invariant-loop-id : goal.invariant-loop-id
invariant-loop-id l = IsDeleting l.l l.fn.kernel l.kernel

abbrev pub decreases-loop-id : goal.decreases-loop-id
decreases-loop-id l = size_of (live (slots l.kernel))
