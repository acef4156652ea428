-- A search for what a gate depends on.
use Rattle.std.specs.Prelude.{◌≡◌, ◌<◌, ◌⊎◌, ℕ, Bool, true, List, length, slice_index_or}
use Rattle.q_gates.specs.Uses.{Parts, Uses, DependsOn}
use Rattle.q_gates.specs.Sorting.{is_marked}

-- all that this gate uses is marked
abbrev pub IsSpent : Parts → List Bool → ℕ → Type 0
IsSpent ps marks g = (h : ℕ) → Uses ps g h → is_marked marks h ≡ true

-- what is marked is what k depends on; what is marked and not spent is on the stack, or it is g
pub record IsSpread (ps : Parts) (k : ℕ) (marks : List Bool) (stack : List ℕ) (g : ℕ) : Type 0 where
  pub room : length marks ≡ length ps
  pub reached : (x : ℕ) → is_marked marks x ≡ true → DependsOn ps k x
  pub stacked : (i : ℕ) → i < length stack → is_marked marks (slice_index_or stack i 0) ≡ true
  pub spent : (x : ℕ) → (x ≡ k) ⊎ (is_marked marks x ≡ true) → ((i : ℕ) × (i < length stack) × (slice_index_or stack i 0 ≡ x)) ⊎ ((x ≡ g) ⊎ IsSpent ps marks x)

-- the same, with nothing left but the stack
pub record IsStacked (ps : Parts) (k : ℕ) (marks : List Bool) (stack : List ℕ) : Type 0 where
  pub room : length marks ≡ length ps
  pub reached : (x : ℕ) → is_marked marks x ≡ true → DependsOn ps k x
  pub stacked : (i : ℕ) → i < length stack → is_marked marks (slice_index_or stack i 0) ≡ true
  pub spent : (x : ℕ) → (x ≡ k) ⊎ (is_marked marks x ≡ true) → ((i : ℕ) × (i < length stack) × (slice_index_or stack i 0 ≡ x)) ⊎ IsSpent ps marks x
