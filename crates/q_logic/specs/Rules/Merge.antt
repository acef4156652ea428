-- Merge: keep takes the place of gone where each is joined to the other by clauses of two literals. (Brafman, IJCAI 2001;
-- for quantified formulas Samulowitz and Bacchus, SAT 2006.)
use Rattle.std.specs.Prelude.{not, ◌&&◌, eqb}
use Rattle.q_logic.specs.Literals.{Literal}
use Rattle.q_logic.specs.Prefixes.{is_existential, outer_or_same}
use Rattle.q_logic.specs.Merging.{merged, joined, Mergeable}
use Rattle.q_logic.specs.Numbered.{live, formula_of}
use Rattle.q_logic.specs.Rule.{Rule}

abbrev pub rule : Literal → Literal → Rule
rule keep gone = record {
  place = gone.var;
  condition = λ B P N. Mergeable P (live N) keep gone;
  change = λ P N. formula_of P (merged keep gone (live N));
  test = λ B P N. not (eqb keep.var gone.var) && (is_existential P gone.var &&
      (outer_or_same P keep.var gone.var &&
      (joined (live N) keep gone && joined (live N) gone keep)));
}
