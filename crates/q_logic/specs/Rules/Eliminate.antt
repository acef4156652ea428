-- Eliminate: an existential variable goes with its clauses, and their resolvents come. (Davis and Putnam 1960; bounded: Eén
-- and Biere, SAT 2005; for quantified formulas: Biere, SAT 2004, and Heule, Seidl and Biere, IJCAR 2014.)
use Rattle.std.specs.Prelude.{ℕ, ◌+◌, ◌&&◌, ◌||◌, ◌++◌}
use Rattle.q_logic.specs.StepForms.{positive}
use Rattle.q_logic.specs.Literals.{negation}
use Rattle.q_logic.specs.Prefixes.{is_existential}
use Rattle.q_logic.specs.Sweep.{occurs}
use Rattle.q_logic.specs.Sets.{at_most}
use Rattle.q_logic.specs.Measure.{size_of}
use Rattle.q_logic.specs.Eliminating.{resolvents, clauses_of, clauses_not_of, outer_side, no_tautology, Eliminable}
use Rattle.q_logic.specs.Numbered.{live, formula_of}
use Rattle.q_logic.specs.Rule.{Rule}

abbrev pub rule : ℕ → Rule
rule x = record {
  place = x;
  condition = λ B P N. Eliminable B.grow P (live N) x;
  change = λ P N. formula_of P (clauses_not_of x (live N) ++ resolvents x (live N));
  test = λ B P N.
      is_existential P x && (occurs x (live N) &&
      (no_tautology (positive x) (live N) && (no_tautology (negation (positive x)) (live N) &&
      ((outer_side P (positive x) (live N) || outer_side P (negation (positive x)) (live N)) &&
      at_most (size_of (resolvents x (live N))) (size_of (clauses_of x (live N)) + B.grow)))));
}
