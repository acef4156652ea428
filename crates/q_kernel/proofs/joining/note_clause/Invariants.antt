use Rattle.std.proofs.Common.{◌≡◌}
use Rattle.q_kernel.proofs.joining.note_clause.Given as goal

abbrev pub invariant-loop-place : goal.invariant-loop-place
invariant-loop-place l = l.kernel ≡ l.fn.kernel
