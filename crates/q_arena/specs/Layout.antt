-- Where the clauses stand in the row of words.
use Rattle.std.specs.Prelude.{◌≡◌, ◌⊎◌, ℕ, ◌+◌, ◌≤◌, ◌<◌, true, false, if◌then◌else◌, ◌==◌, List, [], ◌∷◌, length, slice_index_or, Option, None, Some}
use Rattle.q_arena.specs.declared.slots.Slot.{Slot}
use Rattle.q_arena.specs.Rings.{Has, AreApart}
use Rattle.q_arena.specs.Chains.{Chains, list_at}

abbrev pub no_slot : Slot
no_slot = record { start = 0; len = 0; live = false }

abbrev pub slot_at : List Slot → ℕ → Slot
slot_at slots i = slice_index_or slots i no_slot

-- the end of a clause, 0 where there is none
abbrev pub end_in : (ℕ → Slot) → Option ℕ → ℕ
end_in s None = 0
end_in s (Some i) = (s i).start + (s i).len

-- the end of the first clause of a list
abbrev pub top_of : (ℕ → Slot) → List ℕ → ℕ
top_of s [] = 0
top_of s (i ∷ is) = (s i).start + (s i).len

-- the clauses stand one before the other, the last one first in the list
abbrev pub IsStack : (ℕ → Slot) → List ℕ → Type 0
IsStack s [] = Unit {0}
IsStack s (i ∷ is) = (top_of s is ≤ (s i).start) × IsStack s is

-- the clauses before one in the row
abbrev pub below : ℕ → List ℕ → List ℕ
below i [] = []
below i (j ∷ is) = if j == i then is else below i is

-- the words that the clauses of a list have
abbrev pub size_of : (ℕ → Slot) → List ℕ → ℕ
size_of s [] = 0
size_of s (i ∷ is) = (s i).len + size_of s is

-- the ids in use, the last one in the row first, the free ones, and how many there are
pub record Order : Type 0 where
  pub used : List ℕ
  pub free : List ℕ
  pub size : ℕ

-- the live slots stand in the row, and the free ones are in another list
pub record AreLaid (room : ℕ) (slots : List Slot) (ids : Order) (end total : ℕ) : Type 0 where
  pub stack : IsStack (slot_at slots) ids.used
  pub apart : AreApart ids.used
  pub top : end ≡ top_of (slot_at slots) ids.used
  pub within : end ≤ room
  pub few : length slots ≤ 4294967295
  pub whole : total ≡ size_of (slot_at slots) ids.used
  pub live : (i : ℕ) → Has ids.used i → (slot_at slots i).live ≡ true
  pub lives : (i : ℕ) → (slot_at slots i).live ≡ true → Has ids.used i
  pub count : length slots ≡ length ids.used + length ids.free
  pub frees : (i : ℕ) → Has ids.free i → ((slot_at slots i).live ≡ false) × (i < length slots)

-- more free ids with their slots, and nothing else is changed
pub record AreMore (slots more : List Slot) (ids grown : Order) : Type 0 where
  pub same : (k : ℕ) → slot_at more k ≡ slot_at slots k
  pub least : length slots ≤ length more
  pub used : grown.used ≡ ids.used
  pub count : length more + length ids.free ≡ length slots + length grown.free
  pub frees : (i : ℕ) → Has grown.free i → Has ids.free i ⊎ ((length slots ≤ i) × (i < length more))

-- only the first two lists are used: the ids in use, and the free ones
pub record AreIds (c : Chains) : Type 0 where
  pub ready : (list_at c 0 ≡ []) ⊎ (2 ≤ length c.lists)
  pub others : (m : ℕ) → 2 ≤ m → list_at c m ≡ []
