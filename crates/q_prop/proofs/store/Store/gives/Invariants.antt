use Rattle.std.proofs.Common.{◌≡◌, ◌≢◌, ◌⊎◌, ◌<◌, ℕ, Some, Contains, slice_get}
use Rattle.q_logic.specs.Prelude.{Literal, negation}
use Rattle.q_prop.specs.Supports.{IsUnitBeside}
use Rattle.q_prop.proofs.store.Store.gives.Given as goal

abbrev pub invariant-loop-other : goal.invariant-loop-other
invariant-loop-other l = (j : ℕ) (k : Literal) → j < l.other-index → slice_get l.part j ≡ Some k → k ≢ l.lit → Contains l.clause k ⊎ IsUnitBeside l.self l.at (negation k)
