-- What stands for each variable of the formula.
use Rattle.std.specs.Prelude.{◌≡◌, ℕ, ◌≤◌, ◌<◌, ◌^◌, List, [], length, map, slice_index_or, Option, Some, None}
use Rattle.q_logic.specs.Prelude.{Literal, NamedOutput, Operand, CertificateView, output_named}
use Rattle.q_aig.specs.declared.output.Output.{Output}
use Rattle.q_aig.specs.Prelude.{Net, output_of}
use Rattle.q_miter.specs.Miters.{operand_literal}
use Rattle.q_pages.specs.ByNumber.{Values, value_at}

-- each input is a variable
abbrev pub AreNames : List ℕ → Type 0
AreNames inputs =
    (i : ℕ) → i < length inputs → (1 ≤ slice_index_or inputs i 0) × (slice_index_or inputs i 0 < 2 ^ 31)

-- circuits without names
abbrev pub bare : Net → CertificateView
bare n = record { inputs = n.inputs; gates = n.gates; outputs = [] }

-- the literal of a circuit, where there is one
abbrev pub circuit_literal : ℕ → List ℕ → Option Operand → Option Literal
circuit_literal top inputs None = None
circuit_literal top inputs (Some o) = Some (operand_literal top inputs o)

-- each variable has the literal by the first of these outputs that has its name, and none where no output has it
pub record AreBy (top : ℕ) (inputs : List ℕ) (os : List NamedOutput) (lits : Values (Option Literal)) : Type 0 where
  pub at : (v : ℕ) → value_at lits v ≡ circuit_literal top inputs (output_named v os)

abbrev pub StandFor : ℕ → List ℕ → List Output → Values (Option Literal) → Type 0
StandFor top inputs os lits = AreBy top inputs (map output_of os) lits

-- each variable that has a circuit has its literal
abbrev pub IsTranslation : ℕ → CertificateView → Values (Option Literal) → Type 0
IsTranslation top c lits = AreBy top c.inputs c.outputs lits
