-- For each literal the row of the clauses that watch it.
use Rattle.std.specs.Prelude.{◌≡◌, ◌≢◌, ◌⊎◌, ℕ, ◌+◌, ◌≤◌, List, [], ◌∷◌, ◌++◌, Some, slice_index_or, slice_get, length}
use Rattle.q_logic.specs.Prelude.{Literal, pack, Clause, IsIn}
use Rattle.q_watch.specs.declared.entry.Entry.{Entry}

abbrev pub row_of : List (List Entry) → Literal → List Entry
row_of rows l = slice_index_or rows (pack l) []

-- x stands in the row at a place or behind it
abbrev pub IsFrom : {X : Type 0} → List X → ℕ → X → Type 0
IsFrom row i x = (j : ℕ) × (i ≤ j) × (slice_get row j ≡ Some x)

abbrev pub entry_of : ℕ → Literal → Entry
entry_of d b = record { id = d; blocker = b }

-- an entry of the clause D of an id stands there, with a literal of D
abbrev pub HasEntry : List Entry → ℕ → ℕ → Clause → Type 0
HasEntry row i d D = (b : Literal) × IsIn b D × IsFrom row i (entry_of d b)

-- the entry stands at the end of the literal's row, and the other rows are as before
pub record IsPushed (old new : List (List Entry)) (l : Literal) (e : Entry) : Type 0 where
  pub here : row_of new l ≡ row_of old l ++ e ∷ []
  pub others : (k : Literal) → k ≢ l → row_of new k ≡ row_of old k

-- a list has lost what stood at a place
pub record IsShorter (old new : List Entry) (i : ℕ) : Type 0 where
  pub kept : (k : ℕ) (e : Entry) → k ≤ i → IsFrom old k e → (slice_get old i ≡ Some e) ⊎ IsFrom new k e
  pub shorter : length new + 1 ≡ length old

-- no list at another place is changed
abbrev pub AreOthers : List (List Entry) → List (List Entry) → ℕ → Type 0
AreOthers old new p = (j : ℕ) → j ≢ p → slice_index_or new j [] ≡ slice_index_or old j []

-- the row has lost what stood at a place, and the other rows are as before
pub record IsRemoved (old new : List (List Entry)) (l : Literal) (i : ℕ) : Type 0 where
  pub here : IsShorter (row_of old l) (row_of new l) i
  pub others : (k : Literal) → k ≢ l → row_of new k ≡ row_of old k

abbrev pub AreSameRows : List (List Entry) → List (List Entry) → Type 0
AreSameRows old new = (k : Literal) → row_of new k ≡ row_of old k
