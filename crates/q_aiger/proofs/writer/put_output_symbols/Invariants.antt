use Rattle.std.proofs.Common.{◌≡◌, ◌++◌, drop, map}
use Rattle.q_aig.specs.Prelude.{output_of}
use Rattle.q_aiger.specs.Writing.{symbol_lines, names_of}
use Rattle.q_text.specs.Texts.{Extends}
use Rattle.q_aiger.proofs.writer.put_output_symbols.Given as goal

abbrev pub invariant-loop-place : goal.invariant-loop-place
invariant-loop-place l = record {
  text : l.text.items ++ symbol_lines 111 l.place (drop l.place (names_of (map output_of l.outputs))) ≡ l.initial.text.items ++ symbol_lines 111 0 (names_of (map output_of l.outputs));
  before : Extends l.initial.text.items l.text.items;
}
