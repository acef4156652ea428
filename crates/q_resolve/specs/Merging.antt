-- What lines say of variables that they hold in both signs.
use Rattle.std.specs.Prelude.{◌≡◌, ℕ, ◌<◌, ◌≤◌, Bool, true, false, cond, not, ◌&&◌, eqb, List, [], ◌∷◌, ◌++◌, ◌⊎◌, length, map, slice_get, Option, Some, None}
use Rattle.q_logic.specs.Prelude.{Literal, Prefix, is_existential, has}
use Rattle.q_long.specs.Decided.{drops_of}
use Rattle.q_long.specs.Distant.{positive, negative, holds}
use Rattle.q_extract.specs.Saying.{said_in}
use Rattle.q_extract.specs.Merges.{HavePivotsIn}
use Rattle.q_extract.specs.Rows.{drops_in, said_next, values_next, AreSound}
use Rattle.q_extract.specs.declared.drops.Drops.{Drops}
use Rattle.q_extract.specs.declared.said.Merge.{Merge}
use Rattle.q_extract.specs.declared.said.Said.{Said}
use Rattle.q_extract.specs.declared.said.Said.TheVariants.{Constant, Merged}
use Rattle.q_extract.specs.declared.said.Sayings.{Sayings}
use Rattle.q_resolve.specs.declared.leaves.Owner.{Owner}
use Rattle.q_resolve.specs.declared.leaves.Owner.TheVariants.{Exists, Forall}
use Rattle.q_resolve.specs.Sides.{sided}
use Rattle.q_resolve.specs.Tests.{outermost}
use Rattle.q_resolve.specs.Reduced.{front_of, back_of}

-- some literal is one of the variable
abbrev pub mentions : ℕ → List Literal → Bool
mentions x [] = false
mentions x (k ∷ T) = cond (eqb k.var x) true (mentions x T)

-- V holds a variable of the owner that T holds negatively
abbrev pub is_merged_upto : Prefix → List Literal → List Literal → ℕ → Bool
is_merged_upto P V T x = has (positive x) V && (has (negative x) T && is_existential P x)

-- T holds a variable of the owner in both signs
abbrev pub is_merged : Prefix → List Literal → ℕ → Bool
is_merged P T x = is_merged_upto P T T x

-- f has the merges of the variables that T holds in both signs, and no others
pub record IsSayingOf (P : Prefix) (f : ℕ → Option ℕ) (T : List Literal) : Type 0 where
  pub whole : (x : ℕ) → is_merged P T x ≡ true → (i : ℕ) × (f x ≡ Some i)
  pub only : (x : ℕ) → is_merged P T x ≡ false → f x ≡ None

-- the value by which a literal of a line is true in the term, where it is positive or not
abbrev pub value_sign : Owner → Bool → Bool
value_sign Exists b = b
value_sign Forall b = not b

abbrev pub said_as : Option ℕ → Bool → Said
said_as None b = Constant b
said_as (Some i) b = Merged i

-- what a line with S says of a variable that it holds, where f has its merges
abbrev pub said_for : Owner → (ℕ → Option ℕ) → List Literal → ℕ → Said
said_for o f S x = said_as (f x) (value_sign o (has (positive x) S))

-- the merge r is what a resolvent of S and U by k says of the variable: what the one line says that holds it; or, of two, what
-- the pivot chooses
abbrev pub IsParentSaid : Owner → Literal → (ℕ → Option ℕ) → (ℕ → Option ℕ) → List Literal → List Literal → List Merge → ℕ → Option ℕ → Type 0
IsParentSaid o k f g S U ms x r =
    ((holds x U ≡ false) × (r ≡ f x)) ⊎ ((holds x U ≡ true) × (holds x S ≡ false) × (r ≡ g x)) ⊎
    ((holds x U ≡ true) × (holds x S ≡ true) × (i : ℕ) × (r ≡ Some i) ×
    (slice_get ms i ≡ Some (record { pivot = sided o k; first = said_for o f S x; second = said_for o g U x })))

-- the merges of lines before n, and of none behind; nothing is said of the next line that takes something away
pub record IsReady (n : ℕ) (d : Drops) (s : Sayings) : Type 0 where
  pub sound : AreSound d
  pub fresh : (x : ℕ) → said_next d x ≡ None
  pub below : (m x i : ℕ) → said_in s m x ≡ Some i → i < length d.merges.items
  pub later : (m x : ℕ) → n ≤ m → said_in s m x ≡ None

-- maybe some merges more, by the pivot, and the same drops
pub record IsSaidFurther (o : Owner) (k : Literal) (old new : Drops) : Type 0 where
  pub merges : (ms : List Merge) × (new.merges.items ≡ old.merges.items ++ ms)
  pub guards : new.guards ≡ old.guards
  pub drops : drops_in new ≡ drops_in old
  pub sound : AreSound new
  pub pivots : (U : ℕ → Bool) → U k.var ≡ true → HavePivotsIn U old.merges.items → HavePivotsIn U new.merges.items

-- the merge of one variable
pub record IsMergeOf (o : Owner) (k : Literal) (f g : ℕ → Option ℕ) (S U : List Literal) (x : ℕ) (old new : Drops) (r : Option ℕ) : Type 0 where
  pub further : IsSaidFurther o k old new
  pub same : new.said ≡ old.said
  pub here : (i : ℕ) → r ≡ Some i → i < length new.merges.items
  pub is : IsParentSaid o k f g S U new.merges.items x r

-- r, if it is there, in place of another
abbrev pub said_over : Option ℕ → Option ℕ → Option ℕ
said_over None other = other
said_over (Some i) other = Some i

-- the merge r, if it is there, is said of the variable
pub record IsSaidOne (old new : Drops) (x : ℕ) (r : Option ℕ) : Type 0 where
  pub merges : new.merges ≡ old.merges
  pub guards : new.guards ≡ old.guards
  pub drops : drops_in new ≡ drops_in old
  pub sound : AreSound new
  pub next : (y : ℕ) → said_next new y ≡ cond (eqb y x) (said_over r (said_next old y)) (said_next old y)

-- what a resolvent says of one variable is said of it
abbrev pub IsSaidMerged : Owner → Literal → (ℕ → Option ℕ) → (ℕ → Option ℕ) → List Literal → List Literal → ℕ → Drops → Drops → Type 0
IsSaidMerged o k f g S U x old new = (mid : Drops) × (r : Option ℕ) × IsMergeOf o k f g S U x old mid r × IsSaidOne mid new x r

-- a parent says the same as S
pub record IsSaidSame (f : ℕ → Option ℕ) (S : List Literal) (old new : Drops) : Type 0 where
  pub merges : new.merges ≡ old.merges
  pub drops : drops_in new ≡ drops_in old
  pub sound : AreSound new
  pub next : (x : ℕ) → said_next new x ≡ cond (mentions x S) (f x) None

-- of the variables in V that R holds negatively it is said what the resolvent says, and nothing of the others
abbrev pub IsNextSaid : Owner → Prefix → Literal → (ℕ → Option ℕ) → (ℕ → Option ℕ) → List Literal → List Literal → List Literal → List Literal → Drops → ℕ → Type 0
IsNextSaid o P k f g S U V R d x =
    (is_merged_upto P V R x ≡ true → IsParentSaid o k f g S U d.merges.items x (said_next d x)) ×
    (is_merged_upto P V R x ≡ false → said_next d x ≡ None)

pub record IsSaidUpto (o : Owner) (P : Prefix) (k : Literal) (f g : ℕ → Option ℕ) (S U V R : List Literal) (old new : Drops) : Type 0 where
  pub further : IsSaidFurther o k old new
  pub next : (x : ℕ) → IsNextSaid o P k f g S U V R new x

-- the line with the number n says what f says of the variable, if it says anything
abbrev pub IsKeptOne : ℕ → ℕ → (ℕ → Option ℕ) → Sayings → Sayings → Type 0
IsKeptOne n y f old new =
    (m x : ℕ) → said_in new m x ≡ cond (eqb m n && eqb x y) (said_over (f x) (said_in old m x)) (said_in old m x)

-- a line with T, of the number n, says what its parent says of the variables that T holds in both signs
abbrev pub IsKeptSaid : Prefix → List Literal → ℕ → (ℕ → Option ℕ) → Sayings → Sayings → Type 0
IsKeptSaid P T n f old new = (m x : ℕ) → said_in new m x ≡ cond (eqb m n && is_merged P T x) (f x) (said_in old m x)

-- what a line with T takes away of R, from the outermost variable that goes on, and what it keeps before that
pub record IsTakenFrom (o : Owner) (P : Prefix) (R T : List Literal) (old new : Drops) : Type 0 where
  pub drops : drops_in new ≡ drops_in old ++ drops_of
      (values_next old (map (sided o) (back_of P (outermost P T R) R)))
      (values_next old (map (sided o) (front_of P (outermost P T R) R)))
  pub merges : new.merges ≡ old.merges
  pub sound : AreSound new
  pub next : (x : ℕ) → said_next new x ≡ None
