-- Expand: a universal variable goes; what depends on it is written once for each of its values. (Biere, "Resolve and
-- Expand", SAT 2004; bounded: Bubeck and Kleine Büning, SAT 2007.)
use Rattle.std.specs.Prelude.{ℕ, ◌+◌, ◌&&◌, length}
use Rattle.q_logic.specs.Prefixes.{is_universal}
use Rattle.q_logic.specs.Sweep.{occurs}
use Rattle.q_logic.specs.Sets.{at_most}
use Rattle.q_logic.specs.Measure.{size_of}
use Rattle.q_logic.specs.InLimits.{greatest}
use Rattle.q_logic.specs.Eliminating.{clauses_of}
use Rattle.q_logic.specs.Expanding.{expansion_vars, insert_all, expanded, touched_neither, no_both, Expandable}
use Rattle.q_logic.specs.Numbered.{live, formula_of}
use Rattle.q_logic.specs.Rule.{Rule}

abbrev pub rule : ℕ → Rule
rule u = record {
  place = u;
  condition = λ B P N. Expandable B.expand P (live N) u;
  change = λ P N.
      formula_of (insert_all (expansion_vars P (live N) u) (greatest P + 1) P)
      (expanded u (expansion_vars P (live N) u) (greatest P + 1) (live N));
  test = λ B P N.
      is_universal P u && (occurs u (live N) && (no_both u (live N) &&
      (at_most (length (expansion_vars P (live N) u)) B.expand &&
      at_most (size_of (touched_neither u (expansion_vars P (live N) u) (live N)))
      (B.expand + length (clauses_of u (live N))))));
}
