use Rattle.std.proofs.Common.{◌≡◌, ◌<◌, ℕ, [], Some, slice_get}
use Rattle.q_run_show.proofs.lent.is_lost.Given as goal

abbrev pub invariant-loop-at : goal.invariant-loop-at
invariant-loop-at l = (k : ℕ) → k < l.at → slice_get l.formula.matrix k ≡ Some [] → ⊥
