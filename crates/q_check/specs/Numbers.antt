-- Clauses by numbers, over clauses in slots: which slot each number has.
use Rattle.std.specs.Prelude.{◌≡◌, ◌↔◌, ◌⊎◌, ℕ, zero, suc, Bool, true, false, List, [], ◌∷◌, ◌++◌, Option, None, Some, Contains, slice_get, slice_index_or}
use Rattle.q_logic.specs.Prelude.{Clause, Slots, slot, live, set_slot, copies, Chained, Implied}
use Rattle.q_prop.specs.Slots.{Holds, filled}

-- the number has the slot
abbrev pub IsAt : List (Option ℕ) → ℕ → ℕ → Type 0
IsAt ps n at' = slice_get ps n ≡ Some (Some at')

-- what stands in the slot, if there is one
abbrev pub look : Slots → Option ℕ → Option Clause
look s None = None
look s (Some at') = slot s at'

-- what stands at each number
abbrev pub numbered_by : Slots → List (Option ℕ) → Slots
numbered_by s [] = []
numbered_by s (p ∷ ps) = look s p ∷ numbered_by s ps

-- each number has a slot with a clause or none, and each clause has one number
pub record AreNumbered (s : Slots) (ps : List (Option ℕ)) : Type 0 where
  pub held : (n at' : ℕ) → IsAt ps n at' → (C : Clause) × Holds s at' C
  pub named : (at' : ℕ) (C : Clause) → Holds s at' C → (n : ℕ) × IsAt ps n at'
  pub apart : (m n at' : ℕ) → IsAt ps m at' → IsAt ps n at' → m ≡ n
  pub alike : (C : Clause) → copies C (filled s) ≡ copies C (live (numbered_by s ps))

-- the clauses without the one that a number names, if there is one
abbrev pub left_out : Option ℕ → Slots → Slots
left_out None N = N
left_out (Some n) N = set_slot n None N

-- the slot of a number, if one is told
abbrev pub place_in : List (Option ℕ) → Option ℕ → Option ℕ
place_in ps None = None
place_in ps (Some n) = slice_index_or ps n None

-- each slot of the list has its number at the same place of the other, if it has one
abbrev pub AreNumbersOf : List (Option ℕ) → List ℕ → List ℕ → Type 0
AreNumbersOf ps [] [] = Unit {0}
AreNumbersOf ps [] (k ∷ ks) = ⊥
AreNumbersOf ps (h ∷ hs) [] = ⊥
AreNumbersOf ps (h ∷ hs) (k ∷ ks) = ((n : ℕ) → IsAt ps n h → IsAt ps k h) × AreNumbersOf ps hs ks

-- hints that show the literals, or they are not implied
abbrev pub Explains : Slots → Clause → List ℕ → Bool → Type 0
Explains N S hints true = Chained N S hints
Explains N S hints false = ¬ Implied (live N) S

-- the slots from 0 on, so many
abbrev pub counted : ℕ → List (Option ℕ)
counted zero = []
counted (suc n) = counted n ++ Some n ∷ []

-- the number of the slot has come, unless it is left out
abbrev pub HasNamed : List (Option ℕ) → ℕ → Option ℕ → List ℕ → List ℕ → Type 0
HasNamed ps h skip old new =
    (k : ℕ) → Contains new k ↔ (Contains old k ⊎ (IsAt ps k h × ¬ (skip ≡ Some k)))

-- so have those of the slots of a list
abbrev pub HaveNamed : List (Option ℕ) → List ℕ → Option ℕ → List ℕ → Type 0
HaveNamed ps hs skip new =
    (k : ℕ) → Contains new k ↔ ((h : ℕ) × Contains hs h × IsAt ps k h × ¬ (skip ≡ Some k))
