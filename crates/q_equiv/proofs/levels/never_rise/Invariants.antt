use Rattle.std.proofs.Common.{All}
use Rattle.q_kernel.specs.Prelude.{slots}
use Rattle.q_equiv.proofs.FallingLevels.{FallsAt}
use Rattle.q_equiv.proofs.levels.never_rise.Given as goal

abbrev pub invariant-loop-id : goal.invariant-loop-id
invariant-loop-id l = All (λ c. FallsAt l.levels (slots l.kernel) c) l.yielded
