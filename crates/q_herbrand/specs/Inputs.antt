-- Rows that hold a literal for each input.
use Rattle.std.specs.Prelude.{◌≡◌, ◌<◌, ℕ, Bool, true, false, List, [], length, slice_index_or, Option, Some, None}
use Rattle.q_logic.specs.Prelude.{Prefix, IsIn, is_existential, input_at}
use Rattle.q_aig.specs.Prelude.{Net, operand_of}
use Rattle.q_certificate.specs.Prelude.{look_at, is_there}
use Rattle.q_logic.specs.Reversals.{Reversal, added, turned, plain, freshened, removed}

-- the variable is an input
abbrev pub has_input : List (Option ℕ) → ℕ → Bool
has_input ins x = is_there (look_at ins x)

pub record AreInputs (names : List ℕ) (ins : List (Option ℕ)) : Type 0 where
  pub sound : (x l : ℕ) → look_at ins x ≡ Some l → (i : ℕ) × (i < length names) × (slice_index_or names i 0 ≡ x) ×
      (operand_of l ≡ record { node = input_at i; negated = false })
  pub all : (i : ℕ) → i < length names → has_input ins (slice_index_or names i 0) ≡ true

-- the variable is an input, and so is what was one
pub record IsAdded (old new : Net) (ins ins2 : List (Option ℕ)) (v : ℕ) : Type 0 where
  pub inputs : AreInputs new.inputs ins2
  pub gates : new.gates ≡ old.gates
  pub here : has_input ins2 v ≡ true
  pub kept : (x : ℕ) → has_input ins x ≡ true → has_input ins2 x ≡ true

-- the existentials of the prefix and the fresh variables of the entries are inputs
pub record AreOpened (a : Net) (ins : List (Option ℕ)) (P : Prefix) (rs : List Reversal) : Type 0 where
  pub inputs : AreInputs a.inputs ins
  pub gates : a.gates ≡ []
  pub existentials : (x : ℕ) → is_existential P x ≡ true → has_input ins x ≡ true
  pub fresh : (v : ℕ) → IsIn (freshened v) rs → has_input ins v ≡ true

-- the fresh variables of the entries are inputs, and so is what was one
pub record AreFreshAdded (old new : Net) (ins ins2 : List (Option ℕ)) (rs : List Reversal) : Type 0 where
  pub inputs : AreInputs new.inputs ins2
  pub gates : new.gates ≡ old.gates
  pub fresh : (v : ℕ) → IsIn (freshened v) rs → has_input ins2 v ≡ true
  pub kept : (x : ℕ) → has_input ins x ≡ true → has_input ins2 x ≡ true

-- the variable of a fresh one
abbrev pub fresh_var : Reversal → Option ℕ
fresh_var (added l outers) = None
fresh_var (turned l outers) = None
fresh_var (plain l same within) = None
fresh_var (freshened v) = Some v
fresh_var (removed v) = None
