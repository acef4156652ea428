-- Two watched literals for each clause, and sets beside which a clause is quiet.
use Rattle.std.specs.Prelude.{◌≡◌, ◌≢◌, ◌⊎◌, ℕ, true, ◌∷◌, List, Option, None, Some, slice_get, slice_set}
use Rattle.q_logic.specs.Prelude.{Literal, negation, Clause, IsIn, slot}
use Rattle.q_kernel.specs.Prelude.{Seen, slots}
use Rattle.q_watch.specs.declared.entry.Entry.{Entry}
use Rattle.q_watch.specs.declared.entry.Pair.{Pair}
use Rattle.q_watch.specs.declared.watches.Watches.{Watches}
use Rattle.q_watch.specs.Rows.{row_of, HasEntry, entry_of, IsPushed, IsRemoved, AreSameRows}

-- two literals of the clause, or its only one twice
pub record IsPairOf (D : Clause) (p : Pair) : Type 0 where
  pub first_in : IsIn p.first D
  pub second_in : IsIn p.second D
  pub alone : p.second ≡ p.first → (j : Literal) → IsIn j D → j ≡ p.first

-- the clause D of an id watches two of its literals, and stands in the rows of both
pub record IsPaired (w : Watches) (d : ℕ) (D : Clause) : Type 0 where
  pub pair : Pair
  pub there : slice_get w.pairs.items d ≡ Some pair
  pub of : IsPairOf D pair
  pub first_row : HasEntry (row_of w.rows pair.first) 0 d D
  pub second_row : HasEntry (row_of w.rows pair.second) 0 d D

-- so each clause that has a literal
abbrev pub AreWatchesOf : Seen → Watches → Type 0
AreWatchesOf k w = (d : ℕ) (D : Clause) (j : Literal) → slot (slots k) d ≡ Some D → IsIn j D → IsPaired w d D

-- what was made is right
abbrev pub AreRightFor : Seen → Watches → Type 0
AreRightFor k w = w.ready ≡ true → AreWatchesOf k w

-- nothing of what is said of them has changed
pub record IsSame (old new : Watches) : Type 0 where
  pub pairs : new.pairs ≡ old.pairs
  pub rows : new.rows ≡ old.rows
  pub ready : new.ready ≡ old.ready

-- the pairs are the same, and the rows have the same entries
pub record IsLess (old new : Watches) : Type 0 where
  pub pairs : new.pairs ≡ old.pairs
  pub rows : AreSameRows old.rows new.rows

-- the other literal of the pair of an id, if l is one of them
abbrev pub IsOtherOf : Watches → ℕ → Literal → Option Literal → Type 0
IsOtherOf w d l None = (p : Pair) → slice_get w.pairs.items d ≡ Some p → (p.first ≢ l) × (p.second ≢ l)
IsOtherOf w d l (Some o) = (p : Pair) × (slice_get w.pairs.items d ≡ Some p) × (((p.first ≡ l) × (p.second ≡ o)) ⊎ ((p.second ≡ l) × (p.first ≡ o)))

-- the clause of the entry watches a literal in the place of l, and the entry has moved from l's row to that literal's
pub record IsRewatched (old new : Watches) (l : Literal) (i : ℕ) (e : Entry) (m : Literal) : Type 0 where
  pub between : List (List Entry)
  pub pushed : IsPushed old.rows between m e
  pub removed : IsRemoved between new.rows l i
  pub pairs : new.pairs.items ≡ slice_set old.pairs.items e.id (record { first = m; second = e.blocker })

-- a literal of D has its negation in S: D gives S no hidden literal, however S grows without a literal beside its negation
abbrev pub IsOpposed : Clause → Clause → Type 0
IsOpposed S D = (j : Literal) × IsIn j D × IsIn (negation j) S

-- no literal that the clause of an id watches is in H
abbrev pub IsApart : Watches → ℕ → Clause → Type 0
IsApart w d H = (p : Pair) → slice_get w.pairs.items d ≡ Some p → (IsIn p.first H → ⊥) × (IsIn p.second H → ⊥)

-- each clause but that of the id c is opposed to S, or watches no literal of H
abbrev pub IsQuietUpTo : Seen → Watches → ℕ → Clause → Clause → Type 0
IsQuietUpTo k w c S H = (d : ℕ) (D : Clause) (j : Literal) → d ≢ c → slot (slots k) d ≡ Some D → IsIn j D → IsOpposed S D ⊎ IsApart w d H

-- how it is with a clause while the row of l is walked: it is opposed to S, or watches neither l nor a literal of H, or none of H and its
-- entry comes
pub data IsQuiet (w : Watches) (S H : Clause) (l : Literal) (i d : ℕ) (D : Clause) : Type 0 where
  opposed : IsOpposed S D → IsQuiet w S H l i d D
  apart : IsApart w d (l ∷ H) → IsQuiet w S H l i d D
  waiting : IsApart w d H → HasEntry (row_of w.rows l) i d D → IsQuiet w S H l i d D

-- so each clause but that of c, from a place of the row on
abbrev pub IsQuietFrom : Seen → Watches → ℕ → Clause → Clause → Literal → ℕ → Type 0
IsQuietFrom k w c S H l i = (d : ℕ) (D : Clause) (j : Literal) → d ≢ c → slot (slots k) d ≡ Some D → IsIn j D → IsQuiet w S H l i d D
