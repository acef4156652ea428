-- Operands and gates as the code keeps them, and what it answers.
use Rattle.std.specs.Prelude.{◌≡◌, ℕ, List, map, Option, Some, None, Result, Ok, Err}
use Rattle.q_logic.specs.Prelude.{GateNode, Operand, Gate}
use Rattle.q_gates.specs.Gates.{source_view, operand_view, gate_view}
use Rattle.q_aiger.specs.declared.error.AigerError.{AigerError}
use Rattle.q_aiger.specs.declared.error.AigerError.TheVariants.{Refused, NoMemory}
use Rattle.q_gates.specs.declared.gate.Source.{Source}
use Rattle.q_gates.specs.declared.gate.Operand.{Operand as OperandCode}
use Rattle.q_gates.specs.declared.gate.Gate.{Gate as GateCode}

abbrev pub source_some : Option Source → Option GateNode
source_some None = None
source_some (Some s) = Some (source_view s)

abbrev pub operand_some : Option OperandCode → Option Operand
operand_some None = None
operand_some (Some o) = Some (operand_view o)

abbrev pub operands_view : List OperandCode → List Operand
operands_view os = map operand_view os

abbrev pub gate_some : Option GateCode → Option Gate
gate_some None = None
gate_some (Some g) = Some (gate_view g)

abbrev pub FailsAs : {Y : Type 0} → AigerError → Result Y (ℕ × ℕ) → Type 0
FailsAs (Refused n c) r = r ≡ Err (n, c)
FailsAs NoMemory r = Unit {0}

-- the answer is this one, but that memory may be wanting
abbrev pub Answers : {X Y : Type 0} → Result X AigerError → Result Y (ℕ × ℕ) → (X → Y) → Type 0
Answers (Ok x) r view = r ≡ Ok (view x)
Answers (Err e) r view = FailsAs e r
