-- Drops, as the code holds them.
use Rattle.std.specs.Prelude.{◌≡◌, ◌<◌, ◌==◌, if◌then◌else◌, ◌&&◌, ℕ, suc, List, [], ◌∷◌, ◌++◌, length, map, slice_get, Option, Some, None}
use Rattle.q_logic.specs.Prelude.{Literal, Circuit}
use Rattle.q_certificate.specs.Prelude.{look_at}
use Rattle.q_long.specs.Valued.{Value}
use Rattle.q_long.specs.Decided.{Drop}
use Rattle.q_extract.specs.declared.drops.Fall.{Fall}
use Rattle.q_extract.specs.declared.drops.Drops.{Drops}
use Rattle.q_extract.specs.declared.said.Merge.{Merge}
use Rattle.q_extract.specs.Saying.{said_in}
use Rattle.q_extract.specs.Merges.{merge_circuits, AreMerges, value_at}

-- at this place stands a drop of x
abbrev pub IsHere : List Fall → ℕ → ℕ → Type 0
IsHere row x i = (f : Fall) × (slice_get row i ≡ Some f) × (f.lit.var ≡ x)

-- the last place of a drop of x before n, if there is one
abbrev pub IsLast : List Fall → ℕ → ℕ → Option ℕ → Type 0
IsLast row x n None = (i : ℕ) → i < n → ¬ IsHere row x i
IsLast row x n (Some j) = (j < n) × IsHere row x j × ((i : ℕ) → j < i → i < n → ¬ IsHere row x i)

-- the drops of each variable are linked from the last to the first
pub record AreChained (row : List Fall) (last : List (Option ℕ)) : Type 0 where
  pub heads : (x : ℕ) → IsLast row x (length row) (look_at last x)
  pub links : (i : ℕ) → (f : Fall) → slice_get row i ≡ Some f → IsLast row f.lit.var i f.before

-- the values that are kept, if they are there
abbrev pub kept_in : Option (List Value) → List Value
kept_in None = []
kept_in (Some T) = T

-- literals as values: the merges of the one with number n are f n
abbrev pub guards_from : List Circuit → (ℕ → ℕ → Option ℕ) → ℕ → List (List Literal) → List (List Value)
guards_from cs f n [] = []
guards_from cs f n (T ∷ guards) = map (value_at cs (f n)) T ∷ guards_from cs f (suc n) guards

-- the values that lines keep
abbrev pub guards_in : Drops → List (List Value)
guards_in d = guards_from (merge_circuits d.merges.items) (said_in d.said) 0 d.guards

-- the value that is taken away
abbrev pub fall_value : List Circuit → (ℕ → ℕ → Option ℕ) → Fall → Value
fall_value cs f x = value_at cs (f x.guard) x.lit

abbrev pub drop_of : (Fall → Value) → List (List Value) → Fall → Drop
drop_of v guards f = record { value = v f; kept = kept_in (slice_get guards f.guard) }

-- all drops, in their order
abbrev pub drops_in : Drops → List Drop
drops_in d = map (drop_of (fall_value (merge_circuits d.merges.items) (said_in d.said)) (guards_in d)) d.row.items

-- each drop has its kept literals
abbrev pub AreWithin : List (List Literal) → List Fall → Type 0
AreWithin guards row = (i : ℕ) → (f : Fall) → slice_get row i ≡ Some f → f.guard < length guards

pub record AreSound (d : Drops) : Type 0 where
  pub chained : AreChained d.row.items d.last.items
  pub within : AreWithin d.guards d.row.items
  pub merges : AreMerges d.merges.items
  pub said : (g x i : ℕ) → said_in d.said g x ≡ Some i → i < length d.merges.items
  pub fresh : (g x : ℕ) → length d.guards < g → said_in d.said g x ≡ None

-- what is said of the variables of the next line that takes something away
abbrev pub said_next : Drops → ℕ → Option ℕ
said_next d = said_in d.said (length d.guards)

-- literals as values of the next line
abbrev pub values_next : Drops → List Literal → List Value
values_next d T = map (value_at (merge_circuits d.merges.items) (said_next d)) T

-- these drops more, over the same merges
pub record IsMore (old new : Drops) (ds : List Drop) : Type 0 where
  pub drops : drops_in new ≡ drops_in old ++ ds
  pub merges : new.merges ≡ old.merges
  pub said : new.said ≡ old.said
  pub sound : AreSound new

-- the same over the same rows of kept literals
pub record IsMoreOver (old new : Drops) (ds : List Drop) : Type 0 where
  pub guards : new.guards ≡ old.guards
  pub more : IsMore old new ds

-- one merge more, with its place
pub record IsMergeMore (old new : Drops) (m : Merge) (i : ℕ) : Type 0 where
  pub place : i ≡ length old.merges.items
  pub merges : new.merges.items ≡ old.merges.items ++ m ∷ []
  pub guards : new.guards ≡ old.guards
  pub said : new.said ≡ old.said
  pub drops : drops_in new ≡ drops_in old
  pub sound : AreSound new

-- the next line has this merge for the variable
pub record IsSayingMore (old new : Drops) (var i : ℕ) : Type 0 where
  pub merges : new.merges ≡ old.merges
  pub guards : new.guards ≡ old.guards
  pub said : (g x : ℕ) → said_in new.said g x ≡ (if g == length old.guards && x == var then Some i else said_in old.said g x)
  pub drops : drops_in new ≡ drops_in old
  pub sound : AreSound new
