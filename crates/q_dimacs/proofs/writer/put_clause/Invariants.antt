use Rattle.std.proofs.Common.{◌≡◌, ◌++◌, ◌≤◌, vec_capacity, drop, map}
use Rattle.q_logic.specs.Prelude.{number_of}
use Rattle.q_text.specs.Numbers.{numbers_text}
use Rattle.q_text.specs.Texts.{Extends}
use Rattle.q_dimacs.proofs.writer.put_clause.Given as goal

abbrev pub invariant-loop-lit : goal.invariant-loop-lit
invariant-loop-lit l = record {
  text : l.text.items ++ numbers_text (map number_of (drop l.lit-index l.lits)) ≡ l.initial.text.items ++ numbers_text (map number_of l.lits);
  before : Extends l.initial.text.items l.text.items;
  capacity : vec_capacity l.initial.text ≤ vec_capacity l.text;
}
