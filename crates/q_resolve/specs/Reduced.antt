-- Rows of literals, and what a reduction answers.
use Rattle.std.specs.Prelude.{◌↔◌, ◌⊎◌, ℕ, cond, nat_lt, List, [], ◌∷◌, Option, Some, None}
use Rattle.q_logic.specs.Prelude.{Literal, Prefix, IsIn}
use Rattle.q_logic.specs.Prefixes.{place}
use Rattle.q_derive.specs.Traces.{IsKept, IsShed}
use Rattle.q_resolve.specs.declared.fault.Fault.{Fault}
use Rattle.q_resolve.specs.declared.fault.Fault.TheVariants.{Unbound, Missing, NoLeaf, NoPivot, Merged, Lost, Shed}

-- both lists have the same literals
abbrev pub IsSame : List Literal → List Literal → Type 0
IsSame R S = (k : Literal) → IsIn k S ↔ IsIn k R

-- the literals of both
abbrev pub IsJoined : List Literal → List Literal → List Literal → Type 0
IsJoined old xs new = (k : Literal) → IsIn k new ↔ (IsIn k old ⊎ IsIn k xs)

-- the literals that stand before a place, and the others
abbrev pub front_of : Prefix → ℕ → List Literal → List Literal
front_of P at [] = []
front_of P at (k ∷ R) = cond (nat_lt (place P k.var) at) (k ∷ front_of P at R) (front_of P at R)

abbrev pub back_of : Prefix → ℕ → List Literal → List Literal
back_of P at [] = []
back_of P at (k ∷ R) = cond (nat_lt (place P k.var) at) (back_of P at R) (k ∷ back_of P at R)

-- whether R reduces to T
abbrev pub IsReduction : Prefix → List Literal → List Literal → Option Fault → Type 0
IsReduction P R T None = IsKept P R T × IsShed P R T
IsReduction P R T (Some Unbound) = ⊥
IsReduction P R T (Some Missing) = ⊥
IsReduction P R T (Some NoLeaf) = ⊥
IsReduction P R T (Some NoPivot) = ⊥
IsReduction P R T (Some Merged) = ⊥
IsReduction P R T (Some Lost) = ¬ IsKept P R T
IsReduction P R T (Some Shed) = IsKept P R T × ¬ IsShed P R T
