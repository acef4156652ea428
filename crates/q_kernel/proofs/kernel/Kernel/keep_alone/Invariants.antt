use Rattle.std.proofs.Common.{◌-◌, length}
use Rattle.q_kernel.specs.Kernels.{slots}
use Rattle.q_kernel.proofs.KeptView.{IsCleared}
use Rattle.q_kernel.proofs.kernel.Kernel.keep_alone.Given as goal

abbrev pub invariant-loop-id : goal.invariant-loop-id
invariant-loop-id l = IsCleared l.fn.self l.self l.kept l.from

abbrev pub decreases-loop-id : goal.decreases-loop-id
decreases-loop-id l = length (slots l.self) - l.from
