use Rattle.std.proofs.Common.{◌≡◌}
use Rattle.q_logic.specs.Prelude.{clauses_at}
use Rattle.q_kernel.specs.Kernels.{slots}
use Rattle.q_kernel.proofs.kernel.Kernel.formula.Given as goal

abbrev pub invariant-loop-id : goal.invariant-loop-id
invariant-loop-id l = l.clauses ≡ clauses_at (slots l.self) l.yielded
