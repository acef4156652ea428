-- Clauses without sets. (The DIMACS format for propositional clauses, Second DIMACS Challenge, 1993.)
use Rattle.std.specs.Prelude.{ℕ, ◌≤◌, ◌<◌, ◌^◌, List, [], ◌++◌, length}
use Rattle.std.specs.List.{AllByRecursion}
use Rattle.q_logic.specs.declared.limits.Limits.{Limits}
use Rattle.q_logic.specs.Prelude.{IsBelow, Matrix, Prefix, ArePairs, literals_in}
use Rattle.q_dimacs.specs.Building.{greatest}
use Rattle.q_dimacs.specs.Writing.{header_text, matrix_text}
use Rattle.q_miter.specs.Miters.{VarsUpTo}

-- the header with the greatest variable and the number of clauses, and a line for each clause
abbrev pub cnf_text : Matrix → List ℕ
cnf_text X = header_text (greatest X) (length X) ++ matrix_text X

abbrev pub no_sets : Prefix
no_sets = []

-- the literals are those of variables
abbrev pub AreVariables : Matrix → Type 0
AreVariables X = AllByRecursion (λ C. AllByRecursion (λ l. (1 ≤ l.var) × (l.var < 2 ^ 31)) C) X

-- and stand in literal order, each once
pub record AreClauses (X : Matrix) : Type 0 where
  pub variables : AreVariables X
  pub ordered : AllByRecursion (ArePairs IsBelow) X

pub record AreInLimits (m : Limits) (X : Matrix) : Type 0 where
  pub vars : VarsUpTo m.vars X
  pub clauses : length X ≤ m.clauses
  pub lits : literals_in X ≤ m.lits
