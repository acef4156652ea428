-- Small formulas at which the definitions are computed, and careless forms of them that are wrong there.
-- (This project's own.)
use Rattle.std.specs.Prelude.{◌≡◌, ℕ, true, [], ◌∷◌, ◌++◌}
use Rattle.q_logic.specs.declared.formulas.Bound.{Bound}
use Rattle.q_logic.specs.declared.formulas.Quant.TheVariants.{Exists, Forall}
use Rattle.q_logic.specs.Literals.{Literal, negation}
use Rattle.q_logic.specs.Formulas.{Clause, Matrix, Prefix, IsIn, PrenexFormula}
use Rattle.q_logic.specs.Prefixes.{is_existential, is_universal}
use Rattle.q_logic.specs.Propagation.{Implied}
use Rattle.q_logic.specs.Pivots.{without}
use Rattle.q_logic.specs.StepForms.{positive}

-- an existential variable of a prefix
abbrev pub existential : ℕ → Bound
existential v = record { quant = Exists; var = v }

-- a universal one
abbrev pub universal : ℕ → Bound
universal v = record { quant = Forall; var = v }

-- the negative literal of a variable
abbrev pub negative : ℕ → Literal
negative v = record { var = v; negative = true }

-- a clause of two literals
abbrev pub of_two : Literal → Literal → Clause
of_two k l = k ∷ l ∷ []

-- the variables 1 and 2 differ
abbrev pub differ : Matrix
differ = of_two (positive 1) (positive 2) ∷ of_two (negative 1) (negative 2) ∷ []

-- for each value of 1 there is another one for 2
abbrev pub answered : PrenexFormula
answered = record { prefix = universal 1 ∷ existential 2 ∷ []; matrix = differ }

-- there is a value for 2 that differs from each value of 1
abbrev pub guessed : PrenexFormula
guessed = record { prefix = existential 2 ∷ universal 1 ∷ []; matrix = differ }

-- a pivot that looks at all literals of the other clauses, and not only at the outer ones
pub record CarelessPivot (P : Prefix) (X : Matrix) (C : Clause) (l : Literal) : Type 0 where
  pub existential_pivot : is_existential P l.var ≡ true
  pub in_clause : IsIn l C
  pub implied : (D : Clause) → IsIn D X → IsIn (negation l) D →
      Implied X (C ++ without (negation l) D)

-- guessed after the deletion of {1 2} by the careless pivot 2
abbrev pub guessed_less : PrenexFormula
guessed_less = record guessed { matrix = of_two (negative 1) (negative 2) ∷ [] }

-- a reduction that does not mind the negation of the literal in the clauses reached
pub record CarelessReduction (P : Prefix) (C : Clause) (l : Literal) : Type 0 where
  pub universal_literal : is_universal P l.var ≡ true
  pub in_clause : IsIn l C

-- answered after the careless reduction of {1 2} by 1
abbrev pub answered_less : PrenexFormula
answered_less =
    record answered { matrix = (positive 2 ∷ []) ∷ of_two (negative 1) (negative 2) ∷ [] }

-- 3 is equal to 2, which differs from 1
abbrev pub copied : Matrix
copied = of_two (positive 3) (negative 2) ∷ of_two (negative 3) (positive 2) ∷ differ

-- the copy stands behind its original
abbrev pub copied_behind : PrenexFormula
copied_behind =
    record { prefix = universal 1 ∷ existential 2 ∷ existential 3 ∷ []; matrix = copied }

-- the copy stands before the universal that its original reads
abbrev pub copied_before : PrenexFormula
copied_before =
    record { prefix = existential 3 ∷ universal 1 ∷ existential 2 ∷ []; matrix = copied }
