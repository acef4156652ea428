-- The clauses that a kernel's iterators have still to give.
use Rattle.std.specs.Prelude.{◌≡◌, ℕ, Contains, ◌+◌, if◌then◌else◌, ◌==◌, List, [], ◌∷◌, map, drop, Option, None, Some, slice_index_or}
use Rattle.q_logic.specs.Prelude.{Literal, Clause, Slots, slot}
use Rattle.q_arena.specs.Prelude.{Chains, Has, AreApart}
use Rattle.q_occ.specs.Places.{places_of}
use Rattle.q_kernel.specs.Kernels.{Seen, slots, HoldsLiteral}

-- a list from one of its numbers on
abbrev pub since : ℕ → List ℕ → List ℕ
since p [] = []
since p (y ∷ ys) = if y == p then y ∷ ys else since p ys

-- the places from one on, if there is one
abbrev pub since_place : Option ℕ → List ℕ → List ℕ
since_place None ys = []
since_place (Some p) ys = since p ys

-- the clauses that own places
abbrev pub owners_at : Chains → List ℕ → List ℕ
owners_at o ps = map (λ p. slice_index_or o.owners p 0) ps

-- the clauses that hold a literal, in the order of its list
abbrev pub holders_of : Seen → Literal → List ℕ
holders_of k l = owners_at k.lists (places_of k.lists l)

-- those from a place on
abbrev pub holders_since : Seen → Literal → Option ℕ → List ℕ
holders_since k l at = owners_at k.lists (since_place at (places_of k.lists l))

-- a walk along the list of a literal stands at a place, or at the end
pub record IsWalk (k : Seen) (l : Literal) (at : Option ℕ) : Type 0 where
  pub apart : AreApart (places_of k.lists l)
  pub there : (p : ℕ) → at ≡ Some p → Has (places_of k.lists l) p

-- no number stands twice in a list
abbrev pub AreOnce : List ℕ → Type 0
AreOnce [] = Unit
AreOnce (x ∷ xs) = (Contains xs x → ⊥) × AreOnce xs

-- the ids that have a clause, of slots that begin with an id
abbrev pub live_from : ℕ → Slots → List ℕ
live_from n [] = []
live_from n (None ∷ N) = live_from (n + 1) N
live_from n (Some C ∷ N) = n ∷ live_from (n + 1) N

-- the ids of the live clauses, ascending, from one on
abbrev pub ids_since : Seen → ℕ → List ℕ
ids_since k at = live_from at (drop at (slots k))

-- the ids of all live clauses, ascending
abbrev pub ids_of : Seen → List ℕ
ids_of k = live_from 0 (slots k)

-- the id has a clause
pub record IsLive (N : Slots) (c : ℕ) : Type 0 where
  pub there : (C : Clause) × (slot N c ≡ Some C)

-- the id has a clause, and the clause holds the literal
pub record IsHolder (k : Seen) (l : Literal) (c : ℕ) : Type 0 where
  pub holds : HoldsLiteral k c l
