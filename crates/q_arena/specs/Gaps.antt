-- The first clause of the row with dead words before it.
use Rattle.std.specs.Prelude.{◌≡◌, ◌<◌, ℕ, Bool, if◌then◌else◌, ◌==◌, nat_lt, List, [], ◌∷◌, Option, None, Some, length, map}
use Rattle.q_arena.specs.declared.slots.Slot.{Slot}
use Rattle.q_logic.specs.Prelude.{Literal}
use Rattle.q_arena.specs.Seen.{AreOrdered, clause_in}
use Rattle.q_arena.specs.Layout.{size_of, slot_at, Order, AreLaid}

abbrev pub or_else : Option ℕ → Option ℕ → Option ℕ
or_else None o = o
or_else (Some i) o = Some i

abbrev pub when : Bool → ℕ → Option ℕ
when b i = if b then Some i else None

abbrev pub first_gap : (ℕ → Slot) → List ℕ → Option ℕ
first_gap s [] = None
first_gap s (i ∷ is) = or_else (first_gap s is) (when (nat_lt (size_of s is) (s i).start) i)

-- the first gap after one more word died in a clause
abbrev pub gap_past : (ℕ → Slot) → Option ℕ → ℕ → Option ℕ → Option ℕ
gap_past s None i up = up
gap_past s (Some g) i up = if nat_lt (s i).start (s g).start then up else Some g

-- the first gap after a clause is gone
abbrev pub gap_gone : (ℕ → Slot) → Option ℕ → ℕ → Option ℕ → Option ℕ
gap_gone s None i up = if (s i).len == 0 then None else up
gap_gone s (Some g) i up = if g == i then up else (if (s i).len == 0 then Some g else (if nat_lt (s i).start (s g).start then up else Some g))

-- the rows hold the clauses in literal order, and the first gap is known
pub record IsSound (words : List Literal) (slots : List Slot) (ids : Order) (end total : ℕ) (gap : Option ℕ) : Type 0 where
  pub laid : AreLaid (length words) slots ids end total
  pub known : gap ≡ first_gap (slot_at slots) ids.used
  pub ordered : AreOrdered (map (clause_in words) slots)
  pub few_words : length words < 4294967296
