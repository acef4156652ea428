use Rattle.std.proofs.Common.{◌≡◌, ◌≤◌, ◌+◌, drop}
use Rattle.q_logic.specs.Prelude.{literals_in}
use Rattle.q_encode.proofs.sums.literals.Given as goal

abbrev pub invariant-loop-at : goal.invariant-loop-at
invariant-loop-at l = record {
  most : l.total ≤ l.most;
  value : l.total + literals_in (drop l.at l.formula.matrix) ≡ literals_in l.formula.matrix;
}
