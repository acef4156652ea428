use Rattle.std.proofs.Common.{◌≡◌, ◌++◌, drop}
use Rattle.q_aiger.specs.Writing.{symbol_lines}
use Rattle.q_text.specs.Texts.{Extends}
use Rattle.q_aiger.proofs.writer.put_input_symbols.Given as goal

abbrev pub invariant-loop-place : goal.invariant-loop-place
invariant-loop-place l = record {
  text : l.text.items ++ symbol_lines 105 l.place (drop l.place l.names) ≡ l.initial.text.items ++ symbol_lines 105 0 l.names;
  before : Extends l.initial.text.items l.text.items;
}
