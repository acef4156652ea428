use Rattle.std.proofs.Common.{◌≡◌, length}
use Rattle.q_gates.specs.Gates.{gates_view}
use Rattle.q_aiger.specs.Making.{IsGateRow, first_gates}
use Rattle.q_aiger.proofs.making.add_gates.Given as goal

abbrev pub invariant-loop-gate : goal.invariant-loop-gate
invariant-loop-gate l = record {
  inputs : l.aig.inputs ≡ l.initial.aig.inputs;
  gates : l.aig.gates ≡ first_gates l.order (gates_view l.gates) l.gate-index;
  row : IsGateRow l.order l.gate-index l.rows.gates.items;
  room : length l.rows.gates.items ≡ length l.gates;
  input_row : l.rows.inputs ≡ l.initial.rows.inputs;
}
