-- Certificates: nets with named outputs.
use Rattle.std.specs.Prelude.{◌≡◌, ◌≢◌, ◌<◌, ℕ, List, length, slice_index_or}
use Rattle.q_logic.specs.Prelude.{NamedOutput, CertificateView}
use Rattle.q_aig.specs.Nets.{Net, operand_of, IsLiteral}
use Rattle.q_aig.specs.declared.output.Output.{Output}

abbrev pub output_of : Output → NamedOutput
output_of o = record { name = o.var; operand = operand_of o.lit }

abbrev pub net_of : CertificateView → Net
net_of c = record { inputs = c.inputs; gates = c.gates }

abbrev pub no_output : Output
no_output = record { var = 0; lit = 0 }

-- no output has this name
abbrev pub IsNewName : List NamedOutput → ℕ → Type 0
IsNewName os v = (i : ℕ) → i < length os → (slice_index_or os i (output_of no_output)).name ≢ v

-- outputs of a net, each name once
pub record AreOutputs (a : Net) (os : List Output) : Type 0 where
  pub literals : (i : ℕ) → i < length os → IsLiteral a (slice_index_or os i no_output).lit
  pub names : (i j : ℕ) → i < length os → j < length os → (slice_index_or os i no_output).var ≡ (slice_index_or os j no_output).var → i ≡ j
