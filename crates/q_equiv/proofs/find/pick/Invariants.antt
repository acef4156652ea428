use Rattle.std.proofs.Common.{◌≡◌, ◌<◌, ℕ, Some, slice_get}
use Rattle.q_logic.specs.Prelude.{Literal, live, Mergeable}
use Rattle.q_kernel.specs.Prelude.{slots}
use Rattle.q_equiv.proofs.find.pick.Given as goal

abbrev pub invariant-loop-place : goal.invariant-loop-place
invariant-loop-place l = (j : ℕ) (k : Literal) → j < l.place → slice_get l.there j ≡ Some k → Mergeable l.kernel.prefix (live (slots l.kernel)) k l.gone → ⊥
