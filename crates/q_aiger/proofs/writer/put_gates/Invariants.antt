use Rattle.std.proofs.Common.{◌≡◌, ◌++◌, drop, length}
use Rattle.q_aiger.specs.Writing.{gate_lines}
use Rattle.q_text.specs.Texts.{Extends}
use Rattle.q_aiger.proofs.writer.put_gates.Given as goal

abbrev pub invariant-loop-place : goal.invariant-loop-place
invariant-loop-place l = record {
  text : l.text.items ++ gate_lines l.certificate.gates (length l.certificate.inputs) l.cones.kept.items l.place (drop l.place l.cones.kept.items)
      ≡ l.initial.text.items ++ gate_lines l.certificate.gates (length l.certificate.inputs) l.cones.kept.items 0 l.cones.kept.items;
  before : Extends l.initial.text.items l.text.items;
}
