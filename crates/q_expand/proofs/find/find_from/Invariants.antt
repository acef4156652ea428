use Rattle.std.proofs.Common.{ℕ, ◌≤◌, ◌<◌}
use Rattle.q_logic.specs.Prelude.{expand_universal}
use Rattle.q_kernel.specs.Prelude.{Applies}
use Rattle.q_expand.proofs.find.find_from.Given as goal

abbrev pub invariant-loop-u : goal.invariant-loop-u
invariant-loop-u l = (v : ℕ) → l.fn.from ≤ v → v < l.u → Applies l.bounds l.kernel (expand_universal v) → ⊥
