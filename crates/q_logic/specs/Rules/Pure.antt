-- Pure: a literal that occurs and whose negation does not is made true where it is existential, and false where it is
-- universal. (Davis and Putnam 1960; for quantified formulas Cadoli, Giovanardi and Schaerf 1998.)
use Rattle.std.specs.Prelude.{◌≡◌, true, cond, not, ◌&&◌}
use Rattle.q_logic.specs.Literals.{Literal, negation}
use Rattle.q_logic.specs.Prefixes.{is_existential, is_bound}
use Rattle.q_logic.specs.Sets.{OccursIn, literal_occurs, without_literal, each_without}
use Rattle.q_logic.specs.Numbered.{live, formula_of}
use Rattle.q_logic.specs.Rule.{Rule}

abbrev pub rule : Literal → Rule
rule l = record {
  place = l.var;
  condition = λ B P N. (is_bound P l.var ≡ true) × OccursIn l (live N) × (OccursIn (negation l) (live N) → ⊥);
  change = λ P N.
      formula_of P
      (cond (is_existential P l.var) (without_literal l (live N)) (each_without l (live N)));
  test = λ B P N.
      is_bound P l.var && (literal_occurs l (live N) && not (literal_occurs (negation l) (live N)));
}
