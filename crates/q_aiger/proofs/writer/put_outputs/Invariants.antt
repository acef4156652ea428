use Rattle.std.proofs.Common.{◌≡◌, ◌++◌, drop, length}
use Rattle.q_aiger.specs.Writing.{output_lines}
use Rattle.q_text.specs.Texts.{Extends}
use Rattle.q_aiger.proofs.writer.put_outputs.Given as goal

abbrev pub invariant-loop-output : goal.invariant-loop-output
invariant-loop-output l = record {
  text : l.text.items ++ output_lines (length l.certificate.inputs) l.cones.kept.items (drop l.output-index l.certificate.outputs)
      ≡ l.initial.text.items ++ output_lines (length l.certificate.inputs) l.cones.kept.items l.certificate.outputs;
  before : Extends l.initial.text.items l.text.items;
}
