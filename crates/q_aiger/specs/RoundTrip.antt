-- What the canonical text of a certificate is read as.
use Rattle.std.specs.Prelude.{◌≡◌, ◌≤◌, ◌<◌, ℕ, ◌+◌, List, length, slice_index_or}
use Rattle.q_logic.specs.Prelude.{Assignment, value_of, CertificateView, IsThere, AreGates, tree_of}
use Rattle.q_aiger.specs.Cones.{no_output}
use Rattle.q_aiger.specs.Symbols.{AreApart}
use Rattle.q_aiger.specs.Grammar.{Circuits}
use Rattle.q_aiger.specs.Writing.{names_of}

-- each name is a variable, and none is above the limit or stands twice
pub record AreNamed (names : List ℕ) : Type 0 where
  pub variables : (i : ℕ) → i < length names → (1 ≤ slice_index_or names i 0) × (slice_index_or names i 0 ≤ 16777215)
  pub apart : AreApart names

-- the certificate and its text, with so many gates, keep the limits; gates read inputs and earlier gates
pub record IsSpellable (c : CertificateView) (gates : ℕ) (text : List ℕ) : Type 0 where
  pub ordered : AreGates (length c.inputs) 0 c.gates
  pub outputs : (i : ℕ) → i < length c.outputs → IsThere (length c.inputs) (length c.gates) (slice_index_or c.outputs i no_output).operand.node
  pub input_names : AreNamed c.inputs
  pub output_names : AreNamed (names_of c.outputs)
  pub few : length c.inputs + gates ≤ 268435456
  pub short : length text ≤ 1099511627776

-- the same inputs and names, and circuits of the same values
pub record HaveSameValues (c d : CertificateView) : Type 0 where
  pub inputs : d.inputs ≡ c.inputs
  pub names : names_of d.outputs ≡ names_of c.outputs
  pub values : (i : ℕ) → i < length c.outputs → (A : Assignment) → value_of (tree_of d (slice_index_or d.outputs i no_output).operand) A ≡ value_of (tree_of c (slice_index_or c.outputs i no_output).operand) A

-- the text is in the grammar, and whatever circuits it has have the values of the certificate
pub record IsReadAs (c : CertificateView) (text : List ℕ) : Type 0 where
  pub circuits : CertificateView
  pub file : Circuits text circuits
  pub same : (d : CertificateView) → Circuits text d → HaveSameValues c d
