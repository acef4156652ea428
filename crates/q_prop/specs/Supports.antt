-- What the clauses beside a slot say of a literal of its clause, and what the root is without the slot.
use Rattle.std.specs.Prelude.{◌≡◌, ◌≢◌, ◌⊎◌, ℕ, List, [], ◌∷◌, Option, Some, Contains, Bool, IsTrue}
use Rattle.q_logic.specs.Prelude.{Literal, negation, Clause, Slots}
use Rattle.q_prop.specs.declared.supports.Support.{Support}
use Rattle.q_prop.specs.declared.supports.Support.TheVariants.{Doubled, Alone, Apart, Unknown}
use Rattle.q_prop.specs.Chains.{IsUnit}
use Rattle.q_prop.specs.Slots.{Holds, filled, without}
use Rattle.q_prop.specs.Holders.{IsHolder}
use Rattle.q_prop.specs.Marks.{IsTaken}
use Rattle.q_prop.specs.Search.{IsOpen, IsUnset}

-- the list has this number, and no other one
pub record IsOnly (xs : List ℕ) (n : ℕ) : Type 0 where
  pub has : Contains xs n
  pub only : (m : ℕ) → Contains xs m → m ≡ n

-- a clause of the literal alone stands in another slot
abbrev pub IsUnitBeside : Slots → ℕ → Literal → Type 0
IsUnitBeside s n k = Contains (filled (without s (Some n))) (k ∷ [])

-- another slot's clause holds the literal as this slot's does, and each other literal of it is one of this slot's too, or is false by a unit
-- clause of a further slot
pub record IsDoubled (s : Slots) (n : ℕ) (l : Literal) (m : ℕ) : Type 0 where
  pub clause : Clause
  pub elsewhere : Holds (without s (Some n)) m clause
  pub has : Contains clause l
  pub own : (c : Clause) → Holds s n c → Contains c l
  pub others : (c : Clause) → Holds s n c → (k : Literal) → Contains clause k → k ≢ l → Contains c k ⊎ IsUnitBeside s n (negation k)

-- the slot's clause holds the literal, no other one does, and none holds the negation
pub record IsAlone (s : Slots) (n : ℕ) (l : Literal) : Type 0 where
  pub has : (c : Clause) → Holds s n c → Contains c l
  pub only : (m : ℕ) → IsHolder s m l → m ≡ n
  pub none : (m : ℕ) → IsHolder s m (negation l) → ⊥

-- the slot's clause holds the literal, no other one does, and each clause with the negation is true by a unit clause of another slot
pub record IsApart (s : Slots) (n : ℕ) (l : Literal) : Type 0 where
  pub has : (c : Clause) → Holds s n c → Contains c l
  pub only : (m : ℕ) → IsHolder s m l → m ≡ n
  pub met : (m : ℕ) (c : Clause) → Holds s m c → Contains c (negation l) → (k : Literal) × Contains c k × IsUnitBeside s n k

-- what is said is so of the slot that is left out
abbrev pub IsSupport : Slots → Option ℕ → Support → Type 0
IsSupport s skip (Doubled l m) = (n : ℕ) × (skip ≡ Some n) × IsDoubled s n l m
IsSupport s skip (Alone l) = (n : ℕ) × (skip ≡ Some n) × IsAlone s n l
IsSupport s skip (Apart l) = (n : ℕ) × (skip ≡ Some n) × IsApart s n l
IsSupport s skip Unknown = Unit {0}

-- another slot's clause gives a literal that is not false: its other literals are
pub record IsGiven (s : Slots) (n : ℕ) (known : List Literal) : Type 0 where
  pub literal : Literal
  pub slot : ℕ
  pub doubled : IsDoubled s n literal slot
  pub not_false : Contains known (negation literal) → ⊥
  pub unit : IsUnit known doubled.clause literal

-- the slot's clause has two literals that are not false or one that is not true either, or another slot's clause gives what it does
abbrev pub IsSpare : Slots → ℕ → List Literal → Type 0
IsSpare s n known = (c : Clause) → Holds s n c → IsOpen known c ⊎ IsUnset known c ⊎ IsGiven s n known

-- the slot's clause holds the literal, no other one does, and each clause with the negation is true by another literal that a unit
-- clause of another slot gives
pub record IsHung (s : Slots) (n : ℕ) (l : Literal) (known : List Literal) : Type 0 where
  pub has : (c : Clause) → Holds s n c → Contains c l
  pub only : (m : ℕ) → IsHolder s m l → m ≡ n
  pub met : (m : ℕ) (c : Clause) → Holds s m c → Contains c (negation l) → (k : Literal) × Contains c k × IsUnitBeside s n k × Contains known k

-- the root stands without the slot, or has lost the literal that hung on it alone
abbrev pub IsLoosened : Slots → ℕ → List Literal → List Literal → Bool → Type 0
IsLoosened s n old new settled = ((new ≡ old) × IsSpare s n old) ⊎ (IsTrue settled × ((l : Literal) × IsHung s n l old × Contains old l × IsTaken l old new))

-- the literals of unit clauses of other slots are known
abbrev pub AreUnitsKnown : Slots → ℕ → List Literal → Type 0
AreUnitsKnown s n known = (k : Literal) → IsUnitBeside s n k → Contains known k
