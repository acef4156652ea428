-- Sets that grow.
use Rattle.std.specs.Prelude.{◌≡◌, ◌≢◌, ◌↔◌, ◌⊎◌, ◌<◌, ◌≤◌, ℕ, Bool, true, false, List, ◌++◌, length, take, slice_get, Option, Some}
use Rattle.q_logic.specs.Prelude.{Literal, negation, Clause, Matrix, Prefix, IsIn, is_existential, Implied, IsSubset, IsTautology, Within, slot, others}
use Rattle.q_logic.specs.Covering.{Covers}
use Rattle.q_kernel.specs.Prelude.{Seen, slots}
use Rattle.q_blocked.specs.declared.growth.Growth.{Growth}
use Rattle.q_blocked.specs.declared.progress.Progress.{Progress}
use Rattle.q_blocked.specs.declared.progress.Progress.TheVariants.{Ended, Grown, Unchanged}
use Rattle.q_blocked.specs.declared.plan.Stage.{Stage}
use Rattle.q_blocked.specs.Plans.{front, MayGo, IsWay}
use Rattle.q_blocked.specs.Units.{IsSingle}
use Rattle.q_blocked.specs.Walks.{GivesNone, GivesNoneAt, CoversNothing, IsLooked}

-- where the literals of A are false, propagation makes those of S false: what is implied with those of S is implied without
abbrev pub Falls : Matrix → Clause → Clause → Type 0
Falls X A S = (Y : Matrix) → ((D : Clause) → IsIn D X → IsIn D Y) → (U : Clause) → IsSubset A U → Implied Y (U ++ S) → Implied Y U

-- the set S was reached from the clause C, by stages up to a place and hidden literals since
pub record IsReached (P : Prefix) (X : Matrix) (C S : Clause) (ss : List Stage) (base : ℕ) : Type 0 where
  pub back : Covers P X S → Covers P X C
  pub begins : take (length C) S ≡ C
  pub within : Within P S
  pub far : length C ≤ base
  pub near : base ≤ length S
  pub way : IsWay P X S (length C) ss base
  pub falls : Falls X (take base S) S

-- and may grow on: the lists of the literals before a place were walked
pub record IsGrowing (P : Prefix) (X : Matrix) (C S : Clause) (ss : List Stage) (base worked : ℕ) : Type 0 where
  pub reached : IsReached P X C S ss base
  pub consistent : IsTautology S → ⊥
  pub walked : worked ≤ length S
  pub gives_none : (D : Clause) → IsIn D X → (k : Literal) → IsIn k (take worked S) → IsIn k D → GivesNoneAt (take worked S) S D

-- its growth has ended: the clause is covered, and stages lead to one that may go
pub record IsCovered (P : Prefix) (X : Matrix) (C S : Clause) (ss : List Stage) (base : ℕ) (last : Option Literal) : Type 0 where
  pub covers : Covers P X C
  pub begins : take (length C) S ≡ C
  pub within : Within P S
  pub way : IsWay P X S (length C) ss base
  pub goes : MayGo P X (front S base) last

-- a literal that came hidden: the other literals of a clause with its negation are in S
pub record IsGiven (X : Matrix) (S : Clause) (l : Literal) : Type 0 where
  pub giver : Clause
  pub there : IsIn giver X
  pub negated : IsIn (negation l) giver
  pub others_in : (j : Literal) → IsIn j giver → j ≢ negation l → IsIn j S

-- each literal of S came hidden, or stands at a place of a list
pub record IsAsked (X : Matrix) (S : Clause) (places : List ℕ) : Type 0 where
  pub inside : (i : ℕ) → IsIn i places → i < length S
  pub each : (l : Literal) → IsIn l S → ((i : ℕ) × IsIn i places × (slice_get S i ≡ Some l)) ⊎ IsGiven X S l

-- the places from one to another have come to a list
abbrev pub HasPlaces : List ℕ → ℕ → ℕ → List ℕ → Type 0
HasPlaces old from to new = (i : ℕ) → IsIn i new ↔ (IsIn i old ⊎ ((from ≤ i) × (i < to)))

-- a growth of the clause of an id of a kernel that may go on, and one that has ended
abbrev pub Growing : Seen → ℕ → Growth → Type 0
Growing k c g = (C : Clause) × (slot (slots k) c ≡ Some C) × IsGrowing k.prefix (others c (slots k)) C g.set g.plan.stages.items g.base g.worked × IsAsked (others c (slots k)) g.set g.asked.items

abbrev pub Covered : Seen → ℕ → Growth → Type 0
Covered k c g = (C : Clause) × (slot (slots k) c ≡ Some C) × IsCovered k.prefix (others c (slots k)) C g.set g.plan.stages.items g.base g.plan.last

-- literals have come, and nothing else has changed
pub record IsPushed (old new : Growth) : Type 0 where
  pub added : List Literal
  pub set : new.set ≡ old.set ++ added
  pub stages : new.plan.stages.items ≡ old.plan.stages.items
  pub base : new.base ≡ old.base
  pub worked : new.worked ≡ old.worked

-- hidden literals have come, and some clauses give no more; or the growth has ended
abbrev pub HasSpread : Seen → ℕ → (Clause → Type 0) → Growth → Growth → Bool → Type 0
HasSpread k c Q old new true = Covered k c new
HasSpread k c Q old new false = Growing k c new × IsPushed old new × ((E : Clause) → Q E → GivesNoneAt old.set new.set E)

-- literals have come, behind the place up to which the lists were walked
pub record IsLonger (old new : Growth) : Type 0 where
  pub added : List Literal
  pub set : new.set ≡ old.set ++ added
  pub worked : new.worked ≡ old.worked

-- the lists of all literals were walked
abbrev pub HasClosed : Seen → ℕ → Growth → Bool → Type 0
HasClosed k c new true = Covered k c new
HasClosed k c new false = Growing k c new × (length new.set ≤ new.worked)

-- S is not blocked on an existential l, and has all covered literals
abbrev pub IsPassive : Prefix → Matrix → Clause → Literal → Type 0
IsPassive P X S l = is_existential P l.var ≡ true → CoversNothing P X l S

-- what a look at some literals for covered ones has made of a growth
abbrev pub HasLooked : Seen → ℕ → (Literal → Type 0) → Growth → Growth → Progress → Type 0
HasLooked k c Q old new Ended = Covered k c new
HasLooked k c Q old new Grown = Growing k c new × IsLonger old new
HasLooked k c Q old new Unchanged = Growing k c new × (new.set ≡ old.set) × (new.worked ≡ old.worked) × ((l : Literal) → Q l → IsPassive k.prefix (others c (slots k)) old.set l) × (new.asked.items ≡ old.asked.items)

-- literals that are in no S are covered by S on l
pub record CoveredBy (P : Prefix) (X : Matrix) (S : Clause) (K : List Literal) (l : Literal) : Type 0 where
  pub existential : is_existential P l.var ≡ true
  pub some : (k : Literal) × IsIn k K
  pub looked : IsLooked P X l S K true

-- covered literals have come; or the growth has ended
abbrev pub HasCovered : Seen → ℕ → Growth → Growth → Progress → Type 0
HasCovered k c old new Ended = Covered k c new
HasCovered k c old new Grown = Growing k c new × IsLonger old new
HasCovered k c old new Unchanged = ⊥

-- one turn over all that lets the set grow
abbrev pub HasTurned : Seen → ℕ → Growth → Progress → Type 0
HasTurned k c new Ended = Covered k c new
HasTurned k c new Grown = Growing k c new
HasTurned k c new Unchanged = (C : Clause) → slot (slots k) c ≡ Some C → Covers k.prefix (others c (slots k)) C → ⊥

-- the clauses of one literal give nothing
abbrev pub UnitsGiveNone : Matrix → Clause → Type 0
UnitsGiveNone X S = (D : Clause) → IsIn D X → IsSingle D → GivesNone S D

abbrev pub HasUsedUnits : Seen → ℕ → Growth → Growth → Progress → Type 0
HasUsedUnits k c old new Ended = Covered k c new
HasUsedUnits k c old new Grown = Growing k c new × IsLonger old new
HasUsedUnits k c old new Unchanged = (new.set ≡ old.set) × UnitsGiveNone (others c (slots k)) old.set

-- whether the clause is covered
abbrev pub HasDecided : Seen → ℕ → Growth → Bool → Type 0
HasDecided k c new true = Covered k c new
HasDecided k c new false = (C : Clause) → slot (slots k) c ≡ Some C → Covers k.prefix (others c (slots k)) C → ⊥

-- known steps were taken: its growth has ended, or goes on
abbrev pub HasReplayed : Seen → ℕ → Growth → Growth → Bool → Type 0
HasReplayed k c old new true = Covered k c new
HasReplayed k c old new false = Growing k c new × (new.worked ≡ old.worked)
