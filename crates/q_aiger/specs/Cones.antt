-- The gates that the outputs of a certificate are made of.
use Rattle.std.specs.Prelude.{◌≡◌, ◌<◌, ◌≤◌, ℕ, ◌+◌, Bool, true, false, List, [], ◌∷◌, length, slice_index_or, slice_set, eqb, if◌then◌else◌}
use Rattle.q_aig.specs.Prelude.{IsMarked}
use Rattle.q_gates.specs.Gates.{no_operand, no_gate}
use Rattle.q_logic.specs.Prelude.{GateNode, falsum, input_at, gate_at, NamedOutput, CertificateView}

abbrev pub no_output : NamedOutput
no_output = record { name = 0; operand = no_operand }

-- the node is an output, or an operand of a gate that an output is made of
pub data IsPart (c : CertificateView) : GateNode → Type 0 where
  output : (i : ℕ) → i < length c.outputs → IsPart c (slice_index_or c.outputs i no_output).operand.node
  left : (g : ℕ) → IsPart c (gate_at g) → IsPart c (slice_index_or c.gates g no_gate).left.node
  right : (g : ℕ) → IsPart c (gate_at g) → IsPart c (slice_index_or c.gates g no_gate).right.node

-- these are the gates in the cones of the outputs, in their order
pub record AreCones (c : CertificateView) (kept : List ℕ) : Type 0 where
  pub ascending : (i j : ℕ) → i < j → j < length kept → slice_index_or kept i 0 < slice_index_or kept j 0
  pub parts : (i : ℕ) → i < length kept → IsPart c (gate_at (slice_index_or kept i 0))
  pub there : (i : ℕ) → i < length kept → slice_index_or kept i 0 < length c.gates
  pub all : (g : ℕ) → IsPart c (gate_at g) → (i : ℕ) × (i < length kept) × (slice_index_or kept i 0 ≡ g)

-- the place of a number in a list
abbrev pub place_in : List ℕ → ℕ → ℕ
place_in [] x = 0
place_in (y ∷ ys) x = if eqb y x then 0 else place_in ys x + 1

-- one more gate is marked
abbrev pub with_mark : List Bool → GateNode → List Bool
with_mark marks falsum = marks
with_mark marks (input_at i) = marks
with_mark marks (gate_at g) = slice_set marks g true

-- what is marked is a part; the first outputs are marked, and the operands of marked gates from here on
pub record IsMarking (c : CertificateView) (marks : List Bool) (outputs from : ℕ) : Type 0 where
  pub room : length marks ≡ length c.gates
  pub parts : (g : ℕ) → slice_index_or marks g false ≡ true → IsPart c (gate_at g)
  pub roots : (i : ℕ) → i < outputs → IsMarked marks (slice_index_or c.outputs i no_output).operand.node
  pub lefts : (g : ℕ) → from ≤ g → slice_index_or marks g false ≡ true → IsMarked marks (slice_index_or c.gates g no_gate).left.node
  pub rights : (g : ℕ) → from ≤ g → slice_index_or marks g false ≡ true → IsMarked marks (slice_index_or c.gates g no_gate).right.node

-- the gates below a number that are marked, and of each its place among them
pub record ArePlaced (marks : List Bool) (upto : ℕ) (kept places : List ℕ) : Type 0 where
  pub room : length places ≡ length marks
  pub ascending : (i j : ℕ) → i < j → j < length kept → slice_index_or kept i 0 < slice_index_or kept j 0
  pub marked : (i : ℕ) → i < length kept → slice_index_or marks (slice_index_or kept i 0) false ≡ true
  pub below : (i : ℕ) → i < length kept → slice_index_or kept i 0 < upto
  pub all : (g : ℕ) → g < upto → slice_index_or marks g false ≡ true → (i : ℕ) × (i < length kept) × (slice_index_or kept i 0 ≡ g) × (slice_index_or places g 0 ≡ i)
  pub few : length kept ≤ upto
  pub small : (g : ℕ) → slice_index_or places g 0 ≤ upto

-- the gates in the cones, and of each its place among them
pub record HasCones (c : CertificateView) (kept places : List ℕ) : Type 0 where
  pub cones : AreCones c kept
  pub room : length places ≡ length c.gates
  pub placed : (g : ℕ) → IsPart c (gate_at g) → slice_index_or places g 0 ≡ place_in kept g
  pub few : length kept ≤ length c.gates
  pub small : (g : ℕ) → slice_index_or places g 0 ≤ length c.gates
