-- A search through the cone of a literal: gates that were met are marked, and stand in a queue.
use Rattle.std.specs.Prelude.{◌≡◌, ◌<◌, ◌≤◌, ℕ, ◌+◌, Bool, true, false, cond, List, [], ◌∷◌, length, slice_index_or, Option, Some, None, MatchOption, ◌⊎◌}
use Rattle.q_logic.specs.Prelude.{GateNode, falsum, input_at, gate_at}
use Rattle.q_aig.specs.Nets.{operand_of}

abbrev pub pair_at : List (ℕ × ℕ) → ℕ → ℕ × ℕ
pair_at gates g = slice_index_or gates g (0, 0)

-- a gate is marked; what is no gate needs no mark
abbrev pub IsMarked : List Bool → GateNode → Type 0
IsMarked marks falsum = Unit {0}
IsMarked marks (input_at i) = Unit {0}
IsMarked marks (gate_at g) = slice_index_or marks g false ≡ true

-- what a literal is made of
pub data IsInCone (gates : List (ℕ × ℕ)) (l : ℕ) : GateNode → Type 0 where
  root : IsInCone gates l (operand_of l).node
  left : (g : ℕ) → IsInCone gates l (gate_at g) → IsInCone gates l (operand_of (pair_at gates g).0).node
  right : (g : ℕ) → IsInCone gates l (gate_at g) → IsInCone gates l (operand_of (pair_at gates g).1).node

-- all inputs in the cone are allowed
abbrev pub IsPlain : List (ℕ × ℕ) → ℕ → List Bool → Type 0
IsPlain gates l allowed = (i : ℕ) → IsInCone gates l (input_at i) → slice_index_or allowed i false ≡ true

-- the first input in the cone that is not allowed
pub record IsStrange (gates : List (ℕ × ℕ)) (l : ℕ) (allowed : List Bool) (i : ℕ) : Type 0 where
  pub in_cone : IsInCone gates l (input_at i)
  pub strange : slice_index_or allowed i false ≡ false
  pub first : (j : ℕ) → j < i → IsInCone gates l (input_at j) → slice_index_or allowed j false ≡ true

abbrev pub IsSearched : List (ℕ × ℕ) → ℕ → List Bool → Option ℕ → Type 0
IsSearched gates l allowed found = MatchOption found (IsPlain gates l allowed) (IsStrange gates l allowed)

-- a strange input at or before this one was found
abbrev pub IsFoundBy : Option ℕ → ℕ → Type 0
IsFoundBy None i = ⊥
IsFoundBy (Some f) i = f ≤ i

-- the node was met
abbrev pub IsMet : List Bool → List Bool → Option ℕ → GateNode → Type 0
IsMet allowed marks found falsum = Unit {0}
IsMet allowed marks found (input_at i) = (slice_index_or allowed i false ≡ true) ⊎ IsFoundBy found i
IsMet allowed marks found (gate_at g) = slice_index_or marks g false ≡ true

-- both operands of a gate were met
abbrev pub IsDone : List Bool → List Bool → Option ℕ → ℕ × ℕ → Type 0
IsDone allowed marks found p =
    IsMet allowed marks found (operand_of p.0).node × IsMet allowed marks found (operand_of p.1).node

abbrev pub marked_count : List Bool → ℕ
marked_count [] = 0
marked_count (b ∷ bs) = cond b (marked_count bs + 1) (marked_count bs)

-- the marked gates are those of the queue, each once
pub record IsQueue (marks : List Bool) (queue : List ℕ) (tail : ℕ) : Type 0 where
  pub room : length queue ≡ length marks
  pub count : tail ≡ marked_count marks
  pub queued : (j : ℕ) → j < tail → (slice_index_or queue j 0 < length marks) × (slice_index_or marks (slice_index_or queue j 0) false ≡ true)
  pub marked : (g : ℕ) → slice_index_or marks g false ≡ true → (j : ℕ) × (j < tail) × (slice_index_or queue j 0 ≡ g)

-- what is met next is this node or was met before
pub record IsMeeting (allowed marks : List Bool) (found : Option ℕ) (n : GateNode) (marks2 : List Bool) (found2 : Option ℕ) : Type 0 where
  pub marks_kept : (g : ℕ) → slice_index_or marks g false ≡ true → slice_index_or marks2 g false ≡ true
  pub found_kept : (i : ℕ) → IsFoundBy found i → IsFoundBy found2 i
  pub met : IsMet allowed marks2 found2 n
  pub only_mark : (g : ℕ) → slice_index_or marks2 g false ≡ true → (slice_index_or marks g false ≡ true) ⊎ (n ≡ gate_at g)
  pub only_found : (i : ℕ) → found2 ≡ Some i → (found ≡ Some i) ⊎ ((n ≡ input_at i) × (slice_index_or allowed i false ≡ false))

-- how far a search has come: the operands of so many gates of the queue were met
pub record IsExploring (gates : List (ℕ × ℕ)) (l : ℕ) (allowed marks : List Bool) (queue : List ℕ) (tail : ℕ) (found : Option ℕ) (head : ℕ) : Type 0 where
  pub rows : IsQueue marks queue tail
  pub in_cone : (g : ℕ) → slice_index_or marks g false ≡ true → IsInCone gates l (gate_at g)
  pub strange : (i : ℕ) → found ≡ Some i → IsInCone gates l (input_at i) × (slice_index_or allowed i false ≡ false)
  pub start : IsMet allowed marks found (operand_of l).node
  pub done : (j : ℕ) → j < head → IsDone allowed marks found (pair_at gates (slice_index_or queue j 0))
  pub order : head ≤ tail

-- the marked gates are those of the queue from this place on
abbrev pub AreLeft : List Bool → List ℕ → ℕ → ℕ → Type 0
AreLeft marks queue tail from =
    (g : ℕ) → slice_index_or marks g false ≡ true → (j : ℕ) × (from ≤ j) × (j < tail) × (slice_index_or queue j 0 ≡ g)
