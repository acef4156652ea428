-- What a caller sees of a kernel: a formula with numbered clauses, the text of the pending steps, and what is spare.
use Rattle.std.specs.Prelude.{◌≡◌, ◌≤◌, ◌<◌, ◌+◌, ◌*◌, ℕ, true, List, length, slice_index_or, Some}
use Rattle.q_logic.specs.Prelude.{Clause, Prefix, PrenexFormula, IsIn, Literal, Slots, slot, live, formula_of, IsProper, size_of}
use Rattle.q_arena.specs.Prelude.{Clauses, Chains, Has, AreApart}
use Rattle.q_occ.specs.Places.{AreExact, places_of}

pub record Seen : Type 0 where
  -- the flat list of variables
  pub prefix : Prefix
  -- the clause of each id, where it stands, spare words and ids, and dead words
  pub arena : Clauses
  -- for each literal the places at which it stands
  pub lists : Chains
  -- the text of the pending steps
  pub text : List ℕ
  -- how many variables may come, the greatest variable that may, and how many bytes of steps
  pub spare_vars : ℕ
  pub greatest : ℕ
  pub spare_bytes : ℕ

-- the clause of each id
abbrev pub slots : Seen → Slots
slots k = k.arena.clauses

-- the formula, its clauses by ascending id
abbrev pub formula_in : Seen → PrenexFormula
formula_in k = formula_of k.prefix (live k.arena.clauses)

-- the same prefix, the same clause of each id, and the same pending steps
pub record SameView (old new : Seen) : Type 0 where
  pub prefix : new.prefix ≡ old.prefix
  pub clauses : (c : ℕ) → slot new.arena.clauses c ≡ slot old.arena.clauses c
  pub formula : formula_in new ≡ formula_in old
  pub text : new.text ≡ old.text

-- no spare number but that of log bytes falls
pub record KeepsRoom (old new : Seen) : Type 0 where
  pub words : old.arena.spare_words ≤ new.arena.spare_words
  pub ids : old.arena.spare_ids ≤ new.arena.spare_ids
  pub vars : old.spare_vars ≤ new.spare_vars
  pub greatest : old.greatest ≤ new.greatest

-- no spare number falls
pub record KeepsSpare (old new : Seen) : Type 0 where
  pub room : KeepsRoom old new
  pub bytes : old.spare_bytes ≤ new.spare_bytes

-- the place is in the list of a literal
abbrev pub IsListed : Seen → ℕ → Type 0
IsListed k place = (l : Literal) × Has (places_of k.lists l) place

-- the id has a clause, and the clause holds the literal
abbrev pub HoldsLiteral : Seen → ℕ → Literal → Type 0
HoldsLiteral k c l = (C : Clause) × (slot k.arena.clauses c ≡ Some C) × IsIn l C

-- what holds of a kernel at all times
pub record IsSound (k : Seen) : Type 0 where
  -- the formula is one that the code may hold
  pub proper : IsProper (formula_in k)
  -- the lists hold exactly the places of the live clauses, each with its owner
  pub linked : AreExact k.lists k.arena (λ c. true)
  -- no place stands twice in a list
  pub apart : (l : Literal) → AreApart (places_of k.lists l)
  -- each clause that holds a literal owns a place of its list
  pub owned : (c : ℕ) (l : Literal) → HoldsLiteral k c l → (p : ℕ) × Has (places_of k.lists l) p × (slice_index_or k.lists.owners p 0 ≡ c)
  -- numbers of the formula stay far below what the code's numbers hold
  pub size : size_of (live k.arena.clauses) < 8589934592
  pub vars : length k.prefix < 4294967296

-- the spare log bytes suffice for sweeping
abbrev pub HasSweepBytes : Seen → Type 0
HasSweepBytes k = 16 * (size_of (live (slots k)) + length k.prefix) ≤ k.spare_bytes
