use Rattle.std.proofs.Common.{All}
use Rattle.q_kernel.specs.Kernels.{slots}
use Rattle.q_kernel.proofs.KeptView.{IsNotEmpty}
use Rattle.q_kernel.proofs.kernel.Kernel.first_empty.Given as goal

abbrev pub invariant-loop-id : goal.invariant-loop-id
invariant-loop-id l = All (λ c. IsNotEmpty (slots l.self) c) l.yielded
