use Rattle.std.proofs.Common.{length}
use Rattle.q_kernel.proofs.KeptView.{IsRidding}
use Rattle.q_kernel.proofs.kernel.Kernel.remove_idle.Given as goal

abbrev pub invariant-loop-v : goal.invariant-loop-v
invariant-loop-v l = IsRidding l.fn.self l.self

abbrev pub decreases-loop-v : goal.decreases-loop-v
decreases-loop-v l = length l.self.prefix
