-- A walk over the clauses that are reached from one, literal by literal, for the reduction of a
-- universal literal (after Heule, Seidl and Biere, 2014 and 2017).
use Rattle.std.specs.Prelude.{◌≡◌, ◌⊎◌, ℕ, Bool, true, false, not, ◌&&◌, List, ◌++◌, Contains}
use Rattle.q_logic.specs.Prelude.{Literal, negation, Clause, Matrix, Prefix, IsIn, is_existential, is_universal, outer_or_same, Slots}
use Rattle.q_prop.specs.Slots.{Holds}

-- the literal is existential, and inner to u
abbrev pub is_inner : Prefix → Literal → Literal → Bool
is_inner P u k = is_existential P k.var && not (outer_or_same P k.var u.var)

-- the list has grown at its end by inner literals of the clause, and has all of them
pub record IsWidened (P : Prefix) (u : Literal) (C : Clause) (old new : List Literal) : Type 0 where
  pub added : List Literal
  pub is : new ≡ old ++ added
  pub all_there : (k : Literal) → IsIn k C → is_inner P u k ≡ true → Contains new k
  pub no_other : (k : Literal) → Contains new k → Contains old k ⊎ (IsIn k C × (is_inner P u k ≡ true))

-- the clause holds u, or else not its negation, and the list has its inner literals
abbrev pub IsWorkedOff : Prefix → Literal → List Literal → Clause → Type 0
IsWorkedOff P u known E = IsIn u E ⊎ ((IsIn (negation u) E → ⊥) × ((k : Literal) → IsIn k E → is_inner P u k ≡ true → Contains known k))

-- where the list's literals come from
pub record IsGrown (P : Prefix) (u : Literal) (Q : Clause → Type 0) (old new : List Literal) : Type 0 where
  pub added : List Literal
  pub is : new ≡ old ++ added
  pub from : (k : Literal) → Contains new k → Contains old k ⊎ ((E : Clause) × Q E × (IsIn u E → ⊥) × IsIn k E × (is_inner P u k ≡ true))

-- the clause in a slot was followed
abbrev pub IsFollowed : Prefix → Slots → Literal → ℕ → List Literal → List Literal → Bool → Type 0
IsFollowed P s u at' old new true = IsGrown P u (Holds s at') old new × ((E : Clause) → Holds s at' E → IsWorkedOff P u new E)
IsFollowed P s u at' old new false = (E : Clause) × Holds s at' E × (IsIn u E → ⊥) × IsIn (negation u) E

-- the clauses with the negation of a literal were followed
abbrev pub IsVisited : Prefix → Matrix → Literal → Literal → List Literal → List Literal → Bool → Type 0
IsVisited P X u k old new true = IsGrown P u (λ E. IsIn E X × IsIn (negation k) E) old new × ((E : Clause) → IsIn E X → IsIn (negation k) E → IsWorkedOff P u new E)
IsVisited P X u k old new false = (E : Clause) × IsIn E X × IsIn (negation k) E × (IsIn u E → ⊥) × IsIn (negation u) E

-- the clause has its literals that are inner to u among the known ones
abbrev pub HasInner : Prefix → Literal → List Literal → Clause → Type 0
HasInner P u known E = (k : Literal) → IsIn k E → is_inner P u k ≡ true → Contains known k

-- the clause leads nowhere else from the known literals, as long as u is universal
abbrev pub IsBorne : Prefix → Literal → List Literal → Clause → Type 0
IsBorne P u known E = is_universal P u.var ≡ true → (k : Literal) → Contains known k → IsIn (negation k) E → IsWorkedOff P u known E

-- no clause leads elsewhere from the known literals
abbrev pub IsShut : Prefix → Matrix → Literal → List Literal → Type 0
IsShut P X u known = (k : Literal) (E : Clause) → Contains known k → IsIn E X → IsIn (negation k) E → IsWorkedOff P u known E

-- a walk for a literal, and what it met
pub record WalkMap : Type 0 where
  pub literal : Literal
  pub known : List Literal

-- no clause leads elsewhere from what the walk met, as long as its literal is universal
abbrev pub IsEnclosed : Prefix → Matrix → WalkMap → Type 0
IsEnclosed P X R = is_universal P R.literal.var ≡ true → IsShut P X R.literal R.known

-- so it is with several walks
abbrev pub AreEnclosed : Prefix → Matrix → List WalkMap → Type 0
AreEnclosed P X Rs = (R : WalkMap) → IsIn R Rs → IsEnclosed P X R
