use Rattle.std.proofs.Common.{◌≡◌, ◌+◌, ◌≤◌, length}
use Rattle.q_aiger.specs.Lines.{lines_of}
use Rattle.q_aiger.specs.Symbols.{names_from}
use Rattle.q_aiger.proofs.body.read_names.Given as goal

abbrev pub invariant-loop-first : goal.invariant-loop-first
invariant-loop-first l = record {
  line : l.at + length (lines_of l.rest) ≤ l.line + length (lines_of l.text);
  inputs : length l.inputs ≡ length l.initial.inputs;
  outputs : length l.outputs ≡ length l.initial.outputs;
  names : names_from l.last l.at (record { inputs = l.inputs; outputs = l.outputs }) (lines_of l.rest) ≡ names_from l.last l.line (record { inputs = l.initial.inputs; outputs = l.initial.outputs }) (lines_of l.text);
}

abbrev pub decreases-loop-first : goal.decreases-loop-first
decreases-loop-first l = length (lines_of l.rest)
