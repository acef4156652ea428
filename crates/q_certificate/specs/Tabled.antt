-- Tables by variable.
use Rattle.std.specs.Prelude.{◌≡◌, ◌<◌, ℕ, Bool, true, false, List, length, slice_index_or, Option, Some, None}
use Rattle.q_logic.specs.Prelude.{Prefix, is_existential, is_universal, Circuit, Strategy}
use Rattle.q_aig.specs.Prelude.{Net, IsLiteral, tree_at}
use Rattle.q_certificate.specs.Standing.{look_at}

-- the literal of the circuit
abbrev pub Matches : Net → Option Circuit → Option ℕ → Type 0
Matches a None None = Unit {0}
Matches a None (Some l) = ⊥
Matches a (Some t) None = ⊥
Matches a (Some t) (Some l) = IsLiteral a l × (tree_at a l ≡ t)

abbrev pub AreCircuits : Net → Strategy → List (Option ℕ) → Type 0
AreCircuits a c tb = (x : ℕ) → Matches a (c x) (look_at tb x)

-- the places of the first inputs
pub record ArePlacesUpto (names : List ℕ) (upto : ℕ) (tb : List (Option ℕ)) : Type 0 where
  pub sound : (x i : ℕ) → look_at tb x ≡ Some i → (i < length names) × (slice_index_or names i 0 ≡ x)
  pub all : (i : ℕ) → i < upto → look_at tb (slice_index_or names i 0) ≡ Some i

abbrev pub is_there : Option ℕ → Bool
is_there None = false
is_there (Some i) = true

abbrev pub AreExistentials : Prefix → List (Option ℕ) → Type 0
AreExistentials P tb = (x : ℕ) → is_there (look_at tb x) ≡ is_existential P x

-- which inputs are universals of the prefix
abbrev pub AreAllowedBy : Prefix → List ℕ → List Bool → Type 0
AreAllowedBy P names allowed = (i : ℕ) → i < length names → slice_index_or allowed i false ≡ is_universal P (slice_index_or names i 0)

abbrev pub ArePlaces : List ℕ → List (Option ℕ) → Type 0
ArePlaces names tb = ArePlacesUpto names (length names) tb
