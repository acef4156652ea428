-- Why a clause may come or go: the QRAT rules of Heule, Seidl and Biere (2014), over slots.
use Rattle.std.specs.Prelude.{◌≡◌, ◌⊎◌, ℕ, List, Option, ◌++◌, Contains, Result, Ok, Err}
use Rattle.q_logic.specs.Prelude.{Literal, Clause, Matrix, Prefix, IsIn, Implied, outer, Within, FirstPivot, IsWarranted, Slots}
use Rattle.q_prop.specs.Slots.{Holds}
use Rattle.q_prop.specs.Lists.{IsDistinct}
use Rattle.q_judge.specs.declared.pivots.Warrant.{Warrant}
use Rattle.q_judge.specs.declared.pivots.Warrant.TheVariants.{Propagation, Pivot}
use Rattle.q_judge.specs.declared.error.CheckError.{CheckError}
use Rattle.q_judge.specs.declared.error.CheckError.TheVariants.{Refused, NoMemory}

-- the slots whose clauses hold the literal, each once
pub record AreHolders (s : Slots) (m : Literal) (slots : List ℕ) : Type 0 where
  pub all_there : (at : ℕ) (D : Clause) → Holds s at D → IsIn m D → Contains slots at
  pub no_other : (at : ℕ) → Contains slots at → (D : Clause) × Holds s at D × IsIn m D
  pub once : IsDistinct slots

-- the slots of the clauses that hold the literal, each once, where empty slots may be among them
pub record AreSlotsOf (s : Slots) (m : Literal) (slots : List ℕ) : Type 0 where
  pub all_there : (at : ℕ) (D : Clause) → Holds s at D → IsIn m D → Contains slots at
  pub no_other : (at : ℕ) (D : Clause) → Contains slots at → Holds s at D → IsIn m D
  pub once : IsDistinct slots

-- with each clause that holds m the literals, joined with its outer clause, are implied
abbrev pub Resolves : Prefix → Matrix → List Literal → Literal → Type 0
Resolves P X base m = (D : Clause) → IsIn D X → IsIn m D → Implied X (base ++ outer P m D)

-- the first that applies: implied, or by its first literal
abbrev pub IsWarrant : Prefix → Matrix → Clause → Option Literal → Warrant → Type 0
IsWarrant P X C p Propagation = Implied X C
IsWarrant P X C p Pivot = (¬ Implied X C) × FirstPivot P X C p

-- the warrant, or the refusal where there is none
abbrev pub IsAnswered : Prefix → Matrix → Clause → Option Literal → Result Warrant CheckError → Type 0
IsAnswered P X C p (Ok w) = IsWarrant P X C p w
IsAnswered P X C p (Err (Refused n)) = (n ≡ 4) × ¬ IsWarranted P X C p
IsAnswered P X C p (Err NoMemory) = Unit {0}

-- the slot of a clause over the prefix, or the refusal where a variable is not bound or no slot has the clause
abbrev pub IsSlotOf : Prefix → Slots → Clause → Result ℕ CheckError → Type 0
IsSlotOf P s C (Ok at') = Within P C × Holds s at' C
IsSlotOf P s C (Err (Refused n)) = ((n ≡ 2) × ¬ Within P C) ⊎ ((n ≡ 3) × Within P C × ((at' : ℕ) → ¬ Holds s at' C))
IsSlotOf P s C (Err NoMemory) = ⊥
