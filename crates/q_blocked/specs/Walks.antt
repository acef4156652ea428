-- Walks over the other clauses.
use Rattle.std.specs.Prelude.{◌≡◌, ◌≢◌, ◌↔◌, ◌⊎◌, ℕ, Bool, true, false, List, Some}
use Rattle.q_logic.specs.Prelude.{Literal, negation, Clause, Matrix, Prefix, IsIn, keeps, Slots, slot}
use Rattle.q_logic.specs.Blocking.{Clashes, AllClash}
use Rattle.q_logic.specs.Covering.{InEach}
use Rattle.q_blocked.specs.declared.pairs.Shared.{Shared}
use Rattle.q_blocked.specs.declared.pairs.Shared.TheVariants.{Fresh, OfSet, Nothing}

-- the clause of the id d, which is not c
abbrev pub IsBeside : Slots → ℕ → ℕ → Clause → Type 0
IsBeside N c d E = (d ≢ c) × (slot N d ≡ Some E)

-- where all literals of D but one are in H, the negation of that one is in S
abbrev pub GivesNoneAt : Clause → Clause → Clause → Type 0
GivesNoneAt H S D = (new : Literal) → IsIn (negation new) D → ((j : Literal) → IsIn j D → j ≢ negation new → IsIn j H) → IsIn new S

-- the clause D gives S no hidden literal
abbrev pub GivesNone : Clause → Clause → Type 0
GivesNone S D = GivesNoneAt S S D

-- the clause D gives S the hidden literal
pub record Gives (S D : Clause) (new : Literal) : Type 0 where
  pub negated : IsIn (negation new) D
  pub others_in : (j : Literal) → IsIn j D → j ≢ negation new → IsIn j S
  pub is_new : IsIn new S → ⊥

-- some clause with not l does not clash with S on l
abbrev pub IsOpen : Prefix → Matrix → Literal → Clause → Type 0
IsOpen P X l S = (D : Clause) × IsIn D X × IsIn (negation l) D × (Clashes P l S D → ⊥)

-- so the clause of the id d, which is not c
abbrev pub IsOpenAt : Prefix → Slots → ℕ → ℕ → Literal → Clause → Type 0
IsOpenAt P N c d l S = (D : Clause) × IsBeside N c d D × IsIn (negation l) D × (Clashes P l S D → ⊥)

-- S has all covered literals, and some clause with not l does not clash with it
abbrev pub CoversNothing : Prefix → Matrix → Literal → Clause → Type 0
CoversNothing P X l S = IsOpen P X l S × ((k : Literal) → InEach P X l S k → IsIn k S)

-- what a clause of the list of not l does to the covered literals that are found so far
pub record IsCutBy (P : Prefix) (N : Slots) (c d : ℕ) (l : Literal) (S : Clause) (was : Bool) (old : List Literal) (now : Bool) (new : List Literal) : Type 0 where
  pub opened : now ≡ true
  pub by : Clause
  pub beside : IsBeside N c d by
  pub holds : IsIn (negation l) by
  pub clear : Clashes P l S by → ⊥
  pub first : was ≡ false → (k : Literal) → IsIn k new ↔ (IsIn k by × (keeps P (negation l) k ≡ true) × (IsIn k S → ⊥))
  pub next : was ≡ true → (k : Literal) → IsIn k new ↔ (IsIn k old × IsIn k by)

abbrev pub IsNarrowed : Prefix → Slots → ℕ → ℕ → Literal → Clause → Bool → List Literal → Bool → List Literal → Type 0
IsNarrowed P N c d l S was old now new =
    (((D : Clause) → IsBeside N c d D → Clashes P l S D) × (now ≡ was) × (new ≡ old))
    ⊎ IsCutBy P N c d l S was old now new

-- all clauses with not l clash, or the covered literals that are not in S are found
abbrev pub IsLooked : Prefix → Matrix → Literal → Clause → List Literal → Bool → Type 0
IsLooked P X l S K false = AllClash P X l S
IsLooked P X l S K true = IsOpen P X l S × ((k : Literal) → IsIn k K ↔ (InEach P X l S k × (IsIn k S → ⊥)))

-- the clause of the id d, if it is not c, clashes with S on l
pub record ClashesAt (P : Prefix) (N : Slots) (c : ℕ) (l : Literal) (S : Clause) (d : ℕ) : Type 0 where
  pub each : (D : Clause) → IsBeside N c d D → Clashes P l S D

-- C and D have nothing in common that the outer part of C on m holds
abbrev pub IsParted : Prefix → Literal → Clause → Clause → Type 0
IsParted P m C D = (k : Literal) → IsIn k C → keeps P m k ≡ true → IsIn k D → ⊥

-- or nothing beyond S
abbrev pub IsPartedBeyond : Prefix → Literal → Clause → Clause → Clause → Type 0
IsPartedBeyond P m S C D = (k : Literal) → IsIn k C → keeps P m k ≡ true → IsIn k D → (IsIn k S → ⊥) → ⊥

-- what is told of that
abbrev pub HasShared : Prefix → Literal → Clause → Clause → Clause → Shared → Type 0
HasShared P m S C D Fresh = Unit {0}
HasShared P m S C D OfSet = IsPartedBeyond P m S C D
HasShared P m S C D Nothing = IsParted P m C D

-- m is in D, and no other literal is but a
abbrev pub IsCouple : Literal → Literal → Clause → Type 0
IsCouple m a D = IsIn m D × ((k : Literal) → IsIn k D → (k ≡ m) ⊎ (k ≡ a))

-- so the clause of the id d, which is not c
abbrev pub IsCoupleAt : Slots → ℕ → ℕ → Literal → Literal → Type 0
IsCoupleAt N c d m a = (D : Clause) × IsBeside N c d D × IsCouple m a D
