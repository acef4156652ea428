-- What the reader knows of a file whose lines it has read.
use Rattle.std.specs.Prelude.{◌≡◌, ◌<◌, ◌^◌, ◌+◌, length}
use Rattle.q_logic.specs.Prelude.{CertificateView}
use Rattle.q_aiger.specs.declared.reader.Written.{Written}
use Rattle.q_aiger.specs.Circuits.{with_names}
use Rattle.q_gates.specs.Gates.{gates_view}
use Rattle.q_aiger.specs.Standing.{operands_view}
use Rattle.q_aiger.specs.Making.{AreVariables, AreGatesThere, AreOperandsThere}

abbrev pub written_view : Written → CertificateView
written_view w = record { inputs = w.inputs; gates = gates_view w.gates.items; outputs = with_names w.names (operands_view w.outputs.items) }

pub record IsWritten (w : Written) : Type 0 where
  pub inputs : AreVariables w.inputs
  pub names : AreVariables w.names
  pub same : length w.names ≡ length w.outputs.items
  pub gates : AreGatesThere (length w.inputs) (gates_view w.gates.items)
  pub outputs : AreOperandsThere (length w.inputs) (length w.gates.items) (operands_view w.outputs.items)
  pub few : length w.inputs + length w.names + length w.gates.items < 2 ^ 62
