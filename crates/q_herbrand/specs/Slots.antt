-- Slots, and what they stand for.
use Rattle.std.specs.Prelude.{◌≡◌, ◌<◌, ◌++◌, ◌∷◌, [], ℕ, cond, eqb, true, List, length, slice_index_or, Option, Some, None}
use Rattle.q_logic.specs.Prelude.{Circuit, input}
use Rattle.q_aig.specs.Prelude.{Net, IsLiteral, tree_at, Keeps}
use Rattle.q_certificate.specs.Prelude.{look_at, AreLiterals, is_there}
use Rattle.q_herbrand.specs.declared.slots.Slots.{Slots}
use Rattle.q_herbrand.specs.Under.{under, twice}

-- the variable of a slot
abbrev pub owner_at : List ℕ → ℕ → ℕ
owner_at owners s = slice_index_or owners s 0

-- each input is a slot, and what slots were filled with is in the graph
pub record AreSlots (a : Net) (z : Slots) : Type 0 where
  pub room : length z.owners.items ≡ length z.definitions.items
  pub literals : AreLiterals a z.definitions.items
  pub names : (i : ℕ) → i < length a.inputs → slice_index_or a.inputs i 0 < length z.definitions.items

-- each variable of the row, and no other, has one slot that is not filled: the one that stands for it now
pub record AreCurrent (ins : List (Option ℕ)) (z : Slots) : Type 0 where
  pub same : (v : ℕ) → is_there (look_at z.current.items v) ≡ is_there (look_at ins v)
  pub there : (v s : ℕ) → look_at z.current.items v ≡ Some s → s < length z.definitions.items
  pub empty : (v s : ℕ) → look_at z.current.items v ≡ Some s → look_at z.definitions.items s ≡ None
  pub owned : (v s : ℕ) → look_at z.current.items v ≡ Some s → owner_at z.owners.items s ≡ v
  pub last : (s : ℕ) → s < length z.definitions.items → look_at z.definitions.items s ≡ None →
      look_at z.current.items (owner_at z.owners.items s) ≡ Some s

-- the slots of the inputs are those of variables that the row has
abbrev pub AreOwned : List ℕ → List (Option ℕ) → Slots → Type 0
AreOwned names ins z = (i : ℕ) → i < length names →
    is_there (look_at ins (owner_at z.owners.items (slice_index_or names i 0))) ≡ true

-- what each slot stands for: its variable, or what it was filled with
pub record IsResolved (a : Net) (z : Slots) (r : ℕ → Circuit) : Type 0 where
  pub empty : (s : ℕ) → s < length z.definitions.items → look_at z.definitions.items s ≡ None →
      r s ≡ input (owner_at z.owners.items s)
  pub filled : (s l : ℕ) → look_at z.definitions.items s ≡ Some l → r s ≡ twice (under r (tree_at a l))

-- a slot for each of these variables, with the number of its place, and none filled
pub record IsBegun (names : List ℕ) (z : Slots) : Type 0 where
  pub owners : z.owners.items ≡ names
  pub room : length z.definitions.items ≡ length names
  pub current : (s : ℕ) → s < length names → look_at z.current.items (slice_index_or names s 0) ≡ Some s
  pub named : (v s : ℕ) → look_at z.current.items v ≡ Some s → (s < length names) × (slice_index_or names s 0 ≡ v)
  pub definitions : (s : ℕ) → look_at z.definitions.items s ≡ None

-- v has a new slot, whose literal is l
pub record IsRenewed (a b : Net) (tb tb2 : List (Option ℕ)) (z z2 : Slots) (v l : ℕ) : Type 0 where
  pub inputs : b.inputs ≡ a.inputs ++ length z.definitions.items ∷ []
  pub gates : b.gates ≡ a.gates
  pub kept : Keeps a b
  pub there : IsLiteral b l
  pub tree : tree_at b l ≡ input (length z.definitions.items)
  pub circuits : (x : ℕ) → look_at tb2 x ≡ cond (eqb x v) (Some l) (look_at tb x)
  pub current : (x : ℕ) →
      look_at z2.current.items x ≡ cond (eqb x v) (Some (length z.definitions.items)) (look_at z.current.items x)
  pub owners : z2.owners.items ≡ z.owners.items ++ v ∷ []
  pub definitions : z2.definitions.items ≡ z.definitions.items ++ None ∷ []
