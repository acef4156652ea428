-- Forests of clauses.
use Rattle.std.specs.Prelude.{◌≡◌, ◌≢◌, ◌⊎◌, ◌≤◌, ◌+◌, ℕ, List, slice_index_or}
use Rattle.q_logic.specs.Prelude.{Literal, Prefix, IsIn, Slots}
use Rattle.q_kernel.specs.Prelude.{Seen, slots, HoldsLiteral}
use Rattle.q_reduce.specs.declared.place.Place.{Place}
use Rattle.q_reduce.specs.declared.place.Place.TheVariants.{Outside, Root, Below}
use Rattle.q_reduce.specs.Paths.{AreJoined}

-- a universal variable of the block that the forest is for, and the place of each clause
pub record ForestMap : Type 0 where
  pub block : ℕ
  pub places : List Place

abbrev pub place_of : List Place → ℕ → Place
place_of F c = slice_index_or F c Outside

abbrev pub depth_at : Place → ℕ
depth_at Outside = 0
depth_at Root = 0
depth_at (Below p l d j) = d

abbrev pub parent_at : ℕ → Place → ℕ
parent_at c Outside = c
parent_at c Root = c
parent_at c (Below p l d j) = p

abbrev pub jump_at : ℕ → Place → ℕ
jump_at c Outside = c
jump_at c Root = c
jump_at c (Below p l d j) = j

abbrev pub depth_of : List Place → ℕ → ℕ
depth_of F c = depth_at (place_of F c)

abbrev pub parent_of : List Place → ℕ → ℕ
parent_of F c = parent_at c (place_of F c)

abbrev pub jump_of : List Place → ℕ → ℕ
jump_of F c = jump_at c (place_of F c)

-- the parent is one edge nearer to the root, and the jump leads to it, or where its own jump's jump leads
abbrev pub IsLevel : List Place → Place → Type 0
IsLevel F Outside = Unit {0}
IsLevel F Root = Unit {0}
IsLevel F (Below p l d j) = (d ≡ depth_of F p + 1) × ((j ≡ p) ⊎ (j ≡ jump_of F (jump_of F p)))

-- a clause is joined to its parent, by a literal that is inner to the variable
abbrev pub IsEdge : Prefix → Slots → ℕ → ℕ → Place → Type 0
IsEdge P N v c Outside = Unit {0}
IsEdge P N v c Root = Unit {0}
IsEdge P N v c (Below p l d j) = AreJoined P N v c p

abbrev pub AreLevels : List Place → Type 0
AreLevels F = (c : ℕ) → IsLevel F (place_of F c)

-- a forest of the clauses of the slots
pub record IsForest (P : Prefix) (N : Slots) (F : ForestMap) : Type 0 where
  pub levels : AreLevels F.places
  pub edges : (c : ℕ) → IsEdge P N F.block c (place_of F.places c)

-- so of the formula of a kernel
abbrev pub AreForestsOf : Seen → List ForestMap → Type 0
AreForestsOf k Fs = (F : ForestMap) → IsIn F Fs → IsForest k.prefix (slots k) F

-- the first clause is the second, or its parent, or the parent of that, and so on
pub data IsAbove (F : List Place) (y : ℕ) : ℕ → Type 0 where
  itself : IsAbove F y y
  up : (c : ℕ) → IsAbove F y (parent_of F c) → IsAbove F y c

-- a clause is the first of two, or stands on neither of the paths up from them to a common one
pub record IsFree (F : List Place) (top from to x : ℕ) : Type 0 where
  pub first : x ≢ from → depth_of F top ≤ depth_of F x → IsAbove F x from → ⊥
  pub second : x ≢ from → depth_of F top ≤ depth_of F x → IsAbove F x to → ⊥

-- no other clause than the first of two holds the literal on the paths up to a common one
pub record IsClear (k : Seen) (F : List Place) (u : Literal) (from to : ℕ) : Type 0 where
  pub top : ℕ
  pub above_from : IsAbove F top from
  pub above_to : IsAbove F top to
  pub free : (x : ℕ) → HoldsLiteral k x u → IsFree F top from to x
