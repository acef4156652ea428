-- Clauses, matrices, prefixes and formulas. (QDIMACS 1.1)
use Rattle.std.specs.Prelude.{◌≡◌, List, [], ◌∷◌, ◌⊎◌}
use Rattle.q_logic.specs.declared.formulas.Bound.{Bound}
use Rattle.q_logic.specs.Literals.{Literal}

-- a set of literals, which is true where one of them is
abbrev pub Clause : Type 0
Clause = List Literal

-- clauses that all have to be true; their order does not matter, and the number of copies does
abbrev pub Matrix : Type 0
Matrix = List (List Literal)

-- quantified variables, the outermost first
abbrev pub Prefix : Type 0
Prefix = List Bound

-- x is in the list
abbrev pub IsIn : {X : Type 0} → X → List X → Type 0
IsIn x [] = ⊥
IsIn x (y ∷ ys) = (x ≡ y) ⊎ IsIn x ys

-- a formula in prenex conjunctive normal form
pub record PrenexFormula : Type 0 where
  pub prefix : Prefix
  pub matrix : Matrix
