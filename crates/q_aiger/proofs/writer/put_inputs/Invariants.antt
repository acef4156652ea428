use Rattle.std.proofs.Common.{◌≡◌, ◌++◌, ◌-◌}
use Rattle.q_aiger.specs.Writing.{input_lines}
use Rattle.q_text.specs.Texts.{Extends}
use Rattle.q_aiger.proofs.writer.put_inputs.Given as goal

abbrev pub invariant-loop-input : goal.invariant-loop-input
invariant-loop-input l = record {
  text : l.text.items ++ input_lines l.input (l.inputs - l.input) ≡ l.initial.text.items ++ input_lines 0 l.inputs;
  before : Extends l.initial.text.items l.text.items;
}
