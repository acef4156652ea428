use Rattle.std.proofs.Common.{◌≡◌, ◌++◌, ◌≤◌, vec_capacity, drop}
use Rattle.q_dimacs.specs.Writing.{matrix_text}
use Rattle.q_text.specs.Texts.{Extends}
use Rattle.q_dimacs.proofs.writer.put_matrix.Given as goal

abbrev pub invariant-loop-at : goal.invariant-loop-at
invariant-loop-at l = record {
  text : l.text.items ++ matrix_text (drop l.at l.formula.matrix) ≡ l.initial.text.items ++ matrix_text l.formula.matrix;
  before : Extends l.initial.text.items l.text.items;
  capacity : vec_capacity l.initial.text ≤ vec_capacity l.text;
}
