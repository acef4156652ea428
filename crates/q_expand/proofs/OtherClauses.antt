-- The clauses that are not the one that is looked for.
use Rattle.std.proofs.Common.{◌≡◌, ℕ, Some}
use Rattle.q_logic.specs.Prelude.{Clause, Slots, slot}

pub record IsOther (N : Slots) (C : Clause) (d : ℕ) : Type 0 where
  pub other : slot N d ≡ Some C → ⊥
