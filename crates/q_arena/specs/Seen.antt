-- What a caller sees of the arena.
use Rattle.std.specs.Prelude.{◌≡◌, ◌⊎◌, ℕ, ◌+◌, ◌≤◌, ◌<◌, if◌then◌else◌, List, [], ◌∷◌, ◌++◌, length, take, drop, Option, None, Some, slice_index_or}
use Rattle.q_logic.specs.Prelude.{Literal, IsBelow, ArePairs}
use Rattle.q_arena.specs.declared.slots.Slot.{Slot}

-- the words from a place on
abbrev pub piece : List Literal → ℕ → ℕ → List Literal
piece words start len = take len (drop start words)

abbrev pub clause_in : List Literal → Slot → Option (List Literal)
clause_in words s = if s.live then Some (piece words s.start s.len) else None

-- the clause of each id, the place of its first word, and the numbers
pub record Clauses : Type 0 where
  pub clauses : List (Option (List Literal))
  pub starts : List ℕ
  pub room : ℕ
  pub spare_words : ℕ
  pub spare_ids : ℕ
  pub dead : ℕ
  pub next : Option ℕ

abbrev pub clause_at : Clauses → ℕ → Option (List Literal)
clause_at c i = slice_index_or c.clauses i None

abbrev pub start_at : Clauses → ℕ → ℕ
start_at c i = slice_index_or c.starts i 0

-- a clause without the literal at a place
abbrev pub without_at : ℕ → List Literal → List Literal
without_at k c = take k c ++ drop (k + 1) c

-- the id has a clause
abbrev pub IsLive : Clauses → ℕ → Type 0
IsLive a i = (c : List Literal) × (clause_at a i ≡ Some c)

-- the id may be given to a clause
pub record IsFree (a : Clauses) (i : ℕ) : Type 0 where
  pub within : i < length a.clauses
  pub free : clause_at a i ≡ None

-- how many clauses there are
abbrev pub live_in : List (Option (List Literal)) → ℕ
live_in [] = 0
live_in (None ∷ cs) = live_in cs
live_in (Some c ∷ cs) = live_in cs + 1

-- how many words they have
abbrev pub words_in : List (Option (List Literal)) → ℕ
words_in [] = 0
words_in (None ∷ cs) = words_in cs
words_in (Some c ∷ cs) = length c + words_in cs

-- each id has the clause that it had, at its place
pub record AreSameClauses (a b : Clauses) : Type 0 where
  pub clauses : (i : ℕ) → clause_at b i ≡ clause_at a i
  pub starts : (i : ℕ) → start_at b i ≡ start_at a i

-- each clause is in literal order
abbrev pub AreOrdered : List (Option (List Literal)) → Type 0
AreOrdered cs = (i : ℕ) (c : List Literal) → slice_index_or cs i None ≡ Some c → ArePairs IsBelow c

-- a word of the row that a clause has
pub record IsWord (a : Clauses) (p : ℕ) : Type 0 where
  pub id : ℕ
  pub clause : List Literal
  pub live : clause_at a id ≡ Some clause
  pub begins : start_at a id ≤ p
  pub ends : p < start_at a id + length clause

-- no word before this place is dead
abbrev pub IsFilled : Clauses → ℕ → Type 0
IsFilled a n = (p : ℕ) → p < n → IsWord a p

-- the place at which the last clause of the row ends
pub record IsEnd (a : Clauses) (last : ℕ) : Type 0 where
  pub within : (i : ℕ) (c : List Literal) → clause_at a i ≡ Some c → start_at a i + length c ≤ last
  pub reached : (last ≡ 0) ⊎ ((i : ℕ) × (c : List Literal) × (clause_at a i ≡ Some c) × (last ≡ start_at a i + length c))

-- the first clause of the row with dead words before it
pub record IsFirstPastDead (a : Clauses) (id : ℕ) : Type 0 where
  pub live : IsLive a id
  pub dead : IsFilled a (start_at a id) → ⊥
  pub first : (i : ℕ) (c : List Literal) → clause_at a i ≡ Some c → start_at a i < start_at a id → IsFilled a (start_at a i)
