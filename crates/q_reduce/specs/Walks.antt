-- A walk over the clauses that are reached from one, literal by literal.
use Rattle.std.specs.Prelude.{◌≡◌, ◌⊎◌, ℕ, Bool, true, false, List, ◌++◌, Some}
use Rattle.q_logic.specs.Prelude.{Literal, negation, Clause, Matrix, Prefix, IsIn, Slots, slot, inner_existential}

-- the list has grown at its end by inner literals of the clause, and has all of them
pub record IsWidened (P : Prefix) (u : Literal) (C : Clause) (old new : List Literal) : Type 0 where
  pub added : List Literal
  pub is : new ≡ old ++ added
  pub all_there : (k : Literal) → IsIn k C → inner_existential P u.var k.var ≡ true → IsIn k new
  pub no_other : (k : Literal) → IsIn k new → IsIn k old ⊎ (IsIn k C × (inner_existential P u.var k.var ≡ true))

-- the clause holds u, or else not its negation, and the list has its inner literals
abbrev pub IsWorkedOff : Prefix → Literal → List Literal → Clause → Type 0
IsWorkedOff P u known E =
    IsIn u E ⊎ ((IsIn (negation u) E → ⊥)
    × ((k : Literal) → IsIn k E → inner_existential P u.var k.var ≡ true → IsIn k known))

-- where the list's literals come from
pub record IsGrown (P : Prefix) (u : Literal) (Q : Clause → Type 0) (old new : List Literal) : Type 0 where
  pub added : List Literal
  pub is : new ≡ old ++ added
  pub from : (k : Literal) → IsIn k new → IsIn k old ⊎ ((E : Clause) × Q E × (IsIn u E → ⊥) × IsIn k E × (inner_existential P u.var k.var ≡ true))

-- the clause of an id
abbrev pub Stands : Slots → ℕ → Clause → Type 0
Stands N d E = slot N d ≡ Some E

-- the clause of an id was followed
abbrev pub IsFollowed : Prefix → Slots → Literal → ℕ → List Literal → List Literal → Bool → Type 0
IsFollowed P N u d old new true =
    IsGrown P u (Stands N d) old new × ((E : Clause) → Stands N d E → IsWorkedOff P u new E)
IsFollowed P N u d old new false =
    (E : Clause) × Stands N d E × (IsIn u E → ⊥) × IsIn (negation u) E

-- the clauses with the negation of a literal were followed
abbrev pub IsVisited : Prefix → Matrix → Literal → Literal → List Literal → List Literal → Bool → Type 0
IsVisited P X u k old new true =
    IsGrown P u (λ E. IsIn E X × IsIn (negation k) E) old new
    × ((E : Clause) → IsIn E X → IsIn (negation k) E → IsWorkedOff P u new E)
IsVisited P X u k old new false =
    (E : Clause) × IsIn E X × IsIn (negation k) E × (IsIn u E → ⊥) × IsIn (negation u) E
