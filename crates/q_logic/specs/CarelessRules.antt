-- Careless forms of rules, which break truth at small formulas: so the conditions of the right ones matter.
-- (This project's own.)
use Rattle.std.specs.Prelude.{ℕ, ◌+◌, Bool, true, not, ◌&&◌, ◌||◌, List, [], ◌∷◌}
use Rattle.q_logic.specs.Literals.{Literal, negation}
use Rattle.q_logic.specs.Formulas.{Clause, Matrix, PrenexFormula}
use Rattle.q_logic.specs.Pivots.{without}
use Rattle.q_logic.specs.StepForms.{positive}
use Rattle.q_logic.specs.Examples.{existential, universal, negative, of_two}
use Rattle.q_logic.specs.Sets.{has, negated_in}
use Rattle.q_logic.specs.InLimits.{greatest}
use Rattle.q_logic.specs.Expanding.{expansion_vars, insert_all, expanded}

-- a clause is blocked where all literals of the others count, and not only the outer ones
abbrev pub all_clash_anywhere : Matrix → Literal → Clause → Bool
all_clash_anywhere [] l S = true
all_clash_anywhere (D ∷ X) l S =
    (not (has (negation l) D) || negated_in (without (negation l) D) S) && all_clash_anywhere X l S

-- 2 and 3 are not both true, and 1 or not 1 makes one of them true
abbrev pub connected : PrenexFormula
connected = record {
  prefix = universal 1 ∷ existential 2 ∷ existential 3 ∷ [];
  matrix = of_two (positive 1) (positive 2) ∷ of_two (negative 1) (positive 3) ∷
      of_two (negative 2) (negative 3) ∷ [];
}

-- all but the last
abbrev pub but_last : List ℕ → List ℕ
but_last [] = []
but_last (v ∷ []) = []
but_last (v ∷ w ∷ V) = v ∷ but_last (w ∷ V)

-- an expansion that forgets to copy one of the connected variables
abbrev pub forgetful_expansion : PrenexFormula → ℕ → PrenexFormula
forgetful_expansion F u = record {
  prefix =
      insert_all (but_last (expansion_vars F.prefix F.matrix u)) (greatest F.prefix + 1) F.prefix;
  matrix =
      expanded u (but_last (expansion_vars F.prefix F.matrix u)) (greatest F.prefix + 1) F.matrix;
}
