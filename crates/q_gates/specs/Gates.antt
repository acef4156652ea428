-- Gates as the code keeps them.
use Rattle.std.specs.Prelude.{false, List, map}
use Rattle.q_logic.specs.Prelude.{GateNode, falsum, input_at, gate_at, Operand, Gate}
use Rattle.q_gates.specs.declared.gate.Source.{Source}
use Rattle.q_gates.specs.declared.gate.Source.TheVariants.{Constant, Input, Gate as GateSource}
use Rattle.q_gates.specs.declared.gate.Operand.{Operand as OperandCode}
use Rattle.q_gates.specs.declared.gate.Gate.{Gate as GateCode}

abbrev pub source_view : Source → GateNode
source_view Constant = falsum
source_view (Input i) = input_at i
source_view (GateSource g) = gate_at g

abbrev pub operand_view : OperandCode → Operand
operand_view o = record { node = source_view o.source; negated = o.negated }

abbrev pub gate_view : GateCode → Gate
gate_view g = record { left = operand_view g.left; right = operand_view g.right }

abbrev pub gates_view : List GateCode → List Gate
gates_view gs = map gate_view gs

abbrev pub no_operand : Operand
no_operand = record { node = falsum; negated = false }

abbrev pub no_gate : Gate
no_gate = record { left = no_operand; right = no_operand }
