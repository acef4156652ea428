-- A step as it is handed over: its kind and its literals, the first of which is told apart.
use Rattle.std.specs.Prelude.{◌≡◌, ◌<◌, ℕ, false, List, [], ◌∷◌, length, Option, Some, None}
use Rattle.std.specs.List.{AllByRecursion}
use Rattle.q_logic.specs.declared.steps.Kind.{Kind}
use Rattle.q_logic.specs.declared.steps.Kind.TheVariants.{Add, Delete, Drop, Fresh, Remove}
use Rattle.q_logic.specs.Literals.{Literal, IsBelow}
use Rattle.q_logic.specs.Formulas.{Clause, IsIn}
use Rattle.q_logic.specs.Clauses.{clause_of}
use Rattle.q_logic.specs.Parts.{ArePairs}
use Rattle.q_logic.specs.Pivots.{without}
use Rattle.q_logic.specs.Steps.{ProofStep, add, delete, drop_literal, fresh, remove_variable}

-- a variable as a literal
abbrev pub positive : ℕ → Literal
positive v = record { var = v; negative = false }

-- the first literal, if there is one
abbrev pub first_of : List Literal → Option Literal
first_of [] = None
first_of (l ∷ ls) = Some l

-- the literals that a kind takes
abbrev pub IsStepForm : Kind → List Literal → Type 0
IsStepForm Add ls = Unit {0}
IsStepForm Delete ls = Unit {0}
IsStepForm Drop ls = 0 < length ls
IsStepForm Fresh ls = (length ls ≡ 2) × AllByRecursion (λ l. l.negative ≡ false) ls
IsStepForm Remove ls = (length ls ≡ 1) × AllByRecursion (λ l. l.negative ≡ false) ls

-- the step of a kind and its literals
abbrev pub step_of : Kind → List Literal → ProofStep
step_of Add ls = add (first_of ls) (clause_of ls)
step_of Delete ls = delete (first_of ls) (clause_of ls)
step_of Drop [] = drop_literal (positive 0) []
step_of Drop (l ∷ ls) = drop_literal l (clause_of (l ∷ ls))
step_of Fresh [] = fresh 0 0
step_of Fresh (v ∷ []) = fresh v.var 0
step_of Fresh (v ∷ w ∷ ls) = fresh v.var w.var
step_of Remove [] = remove_variable 0
step_of Remove (v ∷ ls) = remove_variable v.var

-- the kind of a step
abbrev pub kind_of : ProofStep → Kind
kind_of (add p C) = Add
kind_of (delete p C) = Delete
kind_of (drop_literal l C) = Drop
kind_of (fresh v w) = Fresh
kind_of (remove_variable v) = Remove

-- the clause with its first literal in front
abbrev pub in_front : Option Literal → Clause → List Literal
in_front None C = C
in_front (Some l) C = l ∷ without l C

-- the literals of a step: the first one, then the others in literal order
abbrev pub literals_of : ProofStep → List Literal
literals_of (add p C) = in_front p C
literals_of (delete p C) = in_front p C
literals_of (drop_literal l C) = l ∷ without l C
literals_of (fresh v w) = positive v ∷ positive w ∷ []
literals_of (remove_variable v) = positive v ∷ []

-- the first literal first, then the others in literal order, each once
abbrev pub arranged : List Literal → List Literal
arranged ls = in_front (first_of ls) (clause_of ls)

-- only an empty clause has no first literal
abbrev pub IsFirst : Option Literal → Clause → Type 0
IsFirst None C = C ≡ []
IsFirst (Some l) C = IsIn l C

-- the clause of a step is in literal order and holds the step's first literal
abbrev pub IsStep : ProofStep → Type 0
IsStep (add p C) = ArePairs IsBelow C × IsFirst p C
IsStep (delete p C) = ArePairs IsBelow C × IsFirst p C
IsStep (drop_literal l C) = ArePairs IsBelow C × IsIn l C
IsStep (fresh v w) = Unit {0}
IsStep (remove_variable v) = Unit {0}

-- what a step of the code is made from: the literals are those of the step that it is seen as
pub record AreStepParts (kind : Kind) (ls : List Literal) : Type 0 where
  pub form : IsStepForm kind ls
  pub same : ls ≡ literals_of (step_of kind ls)
