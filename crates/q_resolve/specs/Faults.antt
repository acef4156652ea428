-- What is wrong with a line of a trace, and which fault is named.
use Rattle.std.specs.Prelude.{◌≡◌, ℕ, ◌<◌, false, List, Option, Some, None}
use Rattle.q_logic.specs.Prelude.{Literal, Prefix, IsIn, is_bound}
use Rattle.q_derive.specs.Traces.{Parents, nothing, missing, single, double, IsParent, IsSource, IsKept, IsShed, IsLeaf, AreBound, Stands}
use Rattle.q_resolve.specs.declared.fault.Fault.{Fault}
use Rattle.q_resolve.specs.declared.fault.Fault.TheVariants.{Unbound, Missing, NoLeaf, NoPivot, Merged, Lost, Shed}

abbrev pub number_of : Fault → ℕ
number_of Unbound = 4
number_of Missing = 5
number_of NoLeaf = 6
number_of NoPivot = 7
number_of Merged = 9
number_of Lost = 10
number_of Shed = 11

-- the line follows from others
abbrev pub HasParents : Parents → Type 0
HasParents nothing = ⊥
HasParents missing = ⊥
HasParents (single S) = Unit {0}
HasParents (double S U) = Unit {0}

-- the fault is there; L says which lines may stand by themselves
abbrev pub IsFault : Prefix → (List Literal → Type 0) → Parents → List Literal → Fault → Type 0
IsFault P L from T Unbound = (k : Literal) × IsIn k T × (is_bound P k.var ≡ false)
IsFault P L from T Missing = (from ≡ missing) × ¬ IsLeaf P L T
IsFault P L from T NoLeaf = (from ≡ nothing) × ¬ IsLeaf P L T
IsFault P L from T NoPivot = HasParents from × ((R : List Literal) → ¬ IsParent P from R)
IsFault P L from T Merged = HasParents from × ((R : List Literal) → ¬ IsSource P from T R)
IsFault P L from T Lost = HasParents from × ((R : List Literal) → IsSource P from T R → ¬ IsKept P R T)
IsFault P L from T Shed = HasParents from × ((R : List Literal) → IsSource P from T R → IsKept P R T → ¬ IsShed P R T)

-- the fault is there, and none of a lower number
pub record IsLeastFault (P : Prefix) (L : List Literal → Type 0) (from : Parents) (T : List Literal) (f : Fault) : Type 0 where
  pub there : IsFault P L from T f
  pub least : (g : Fault) → number_of g < number_of f → ¬ IsFault P L from T g

-- no fault exactly where the line is right, else the least
abbrev pub IsJudgement : Prefix → (List Literal → Type 0) → Parents → List Literal → Option Fault → Type 0
IsJudgement P L from T None = AreBound P T × Stands P L from T
IsJudgement P L from T (Some f) = IsLeastFault P L from T f
