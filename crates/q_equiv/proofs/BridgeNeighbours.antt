-- The clauses of the bridge, among those of a literal.
use Rattle.std.proofs.Common.{◌≡◌, ◌⊎◌, ℕ}
use Rattle.q_equiv.specs.declared.bridge.Bridge.{Bridge}

pub record IsOfBridge (b : Bridge) (c : ℕ) : Type 0 where
  pub either : (c ≡ b.over) ⊎ (c ≡ b.back)
