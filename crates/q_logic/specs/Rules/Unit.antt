-- Unit: the literal of a clause that is one existential literal is made true. (Davis and Putnam 1960; for quantified
-- formulas Cadoli, Giovanardi and Schaerf 1998.)
use Rattle.std.specs.Prelude.{◌≡◌, ℕ, Bool, true, false, [], ◌∷◌, Option, Some, None}
use Rattle.q_logic.specs.Literals.{Literal, negation}
use Rattle.q_logic.specs.Formulas.{Clause, Matrix, Prefix}
use Rattle.q_logic.specs.Prefixes.{is_existential}
use Rattle.q_logic.specs.Sets.{without_literal, each_without}
use Rattle.q_logic.specs.Numbered.{slot, live, formula_of}
use Rattle.q_logic.specs.Rule.{Rule, if_some}

-- the first literal of the clause, if there is one
abbrev pub head_of : Option Clause → Option Literal
head_of None = None
head_of (Some []) = None
head_of (Some (k ∷ C)) = Some k

-- the literal, if there is one, made true
abbrev pub assigned : Option Literal → Matrix → Matrix
assigned None X = X
assigned (Some l) X = each_without (negation l) (without_literal l X)

abbrev pub is_unit : Prefix → Clause → Bool
is_unit P [] = false
is_unit P (l ∷ []) = is_existential P l.var
is_unit P (l ∷ k ∷ C) = false

abbrev pub rule : ℕ → Rule
rule c = record {
  place = c;
  condition = λ B P N. (l : Literal) × (slot N c ≡ Some (l ∷ [])) × (is_existential P l.var ≡ true);
  change = λ P N. formula_of P (assigned (head_of (slot N c)) (live N));
  test = λ B P N. if_some (is_unit P) (slot N c);
}
