-- The inputs that a literal reads.
use Rattle.std.specs.Prelude.{◌≡◌, ◌<◌, ℕ, Bool, true, false, List, length, slice_index_or, Option, Some, None}
use Rattle.q_logic.specs.Prelude.{Reads}
use Rattle.q_aig.specs.Nets.{Net, tree_at}

-- the input at the place i is read
abbrev pub ReadsAt : Net → ℕ → ℕ → Type 0
ReadsAt a l i = (i < length a.inputs) × Reads (tree_at a l) (slice_index_or a.inputs i 0)

-- all inputs that are read are allowed
abbrev pub AreAllowed : Net → ℕ → List Bool → Type 0
AreAllowed a l allowed = (i : ℕ) → ReadsAt a l i → slice_index_or allowed i false ≡ true

-- the first input that is read and not allowed
pub record IsFirstStrange (a : Net) (l : ℕ) (allowed : List Bool) (i : ℕ) : Type 0 where
  pub read : ReadsAt a l i
  pub strange : slice_index_or allowed i false ≡ false
  pub first : (j : ℕ) → j < i → ReadsAt a l j → slice_index_or allowed j false ≡ true

-- what a question for inputs that are not allowed is to answer
abbrev pub IsRead : Net → ℕ → List Bool → Option ℕ → Type 0
IsRead a l allowed None = AreAllowed a l allowed
IsRead a l allowed (Some i) = IsFirstStrange a l allowed i
