use Rattle.std.proofs.Common.{◌≡◌, take, map}
use Rattle.q_aiger.specs.Circuits.{with_names}
use Rattle.q_aiger.specs.Standing.{operands_view}
use Rattle.q_aiger.specs.Making.{output_through}
use Rattle.q_aiger.proofs.making.name_outputs.Given as goal

abbrev pub invariant-loop-at : goal.invariant-loop-at
invariant-loop-at l = record {
  inputs : l.certificate.inputs ≡ l.initial.certificate.inputs;
  gates : l.certificate.gates ≡ l.initial.certificate.gates;
  outputs : l.certificate.outputs ≡ take l.at (map (output_through l.rows.inputs.items l.rows.gates.items) (with_names l.names (operands_view l.outputs)));
}
