use Rattle.std.proofs.Common.{◌≡◌, ◌++◌, drop}
use Rattle.q_dimacs.specs.Writing.{matrix_text}
use Rattle.q_text.specs.Texts.{Extends}
use Rattle.q_cnf.proofs.writing.put_matrix.Given as goal

abbrev pub invariant-loop-at : goal.invariant-loop-at
invariant-loop-at l = record {
  text : l.text.items ++ matrix_text (drop l.at l.clauses) ≡ l.initial.text.items ++ matrix_text l.clauses;
  before : Extends l.initial.text.items l.text.items;
}
