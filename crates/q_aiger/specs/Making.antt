-- Circuits made of what a file says: of each input and each gate the literal that it got.
use Rattle.std.specs.Prelude.{◌≡◌, ◌≤◌, ◌<◌, ℕ, Bool, false, not, List, length, map, take, if◌then◌else◌, slice_index_or}
use Rattle.q_logic.specs.Prelude.{GateNode, falsum, input_at, gate_at, Operand, Gate, NamedOutput, IsThere}
use Rattle.q_aig.specs.Prelude.{Net, operand_of}
use Rattle.q_gates.specs.Gates.{no_gate}
use Rattle.q_aiger.specs.Circuits.{moved_gate}

abbrev pub plain : GateNode → Operand
plain n = record { node = n; negated = false }

-- what a node became
abbrev pub node_through : List ℕ → List ℕ → GateNode → Operand
node_through inputs row falsum = plain falsum
node_through inputs row (input_at i) = operand_of (slice_index_or inputs i 0)
node_through inputs row (gate_at g) = operand_of (slice_index_or row g 0)

abbrev pub signed_through : Bool → Operand → Operand
signed_through b o = record { node = o.node; negated = if b then not o.negated else o.negated }

-- what an operand became
abbrev pub through : List ℕ → List ℕ → Operand → Operand
through inputs row o = signed_through o.negated (node_through inputs row o.node)

abbrev pub gate_through : List ℕ → List ℕ → Gate → Gate
gate_through inputs row g = record { left = through inputs row g.left; right = through inputs row g.right }

-- the literals of the first inputs
pub record IsInputRow (n : ℕ) (inputs : List ℕ) : Type 0 where
  pub room : length inputs ≡ n
  pub literals : (i : ℕ) → i < n → operand_of (slice_index_or inputs i 0) ≡ plain (input_at i)

-- the literals of the first gates of an order
abbrev pub IsGateRow : List ℕ → ℕ → List ℕ → Type 0
IsGateRow order k row = (j : ℕ) → j < k → operand_of (slice_index_or row (slice_index_or order j 0) 0) ≡ plain (gate_at j)

-- the first gates in an order
abbrev pub first_gates : List ℕ → List Gate → ℕ → List Gate
first_gates order gates k = map (λ g. moved_gate order (slice_index_or gates g no_gate)) (take k order)

-- each name is a variable
abbrev pub AreVariables : List ℕ → Type 0
AreVariables names = (i : ℕ) → i < length names → 1 ≤ slice_index_or names i 0

-- operands are inputs and gates that are there
abbrev pub AreGatesThere : ℕ → List Gate → Type 0
AreGatesThere inputs gates =
    (g : ℕ) → g < length gates → IsThere inputs (length gates) (slice_index_or gates g no_gate).left.node × IsThere inputs (length gates) (slice_index_or gates g no_gate).right.node

abbrev pub AreOperandsThere : ℕ → ℕ → List Operand → Type 0
AreOperandsThere inputs gates os = (k : ℕ) → k < length os → IsThere inputs gates (slice_index_or os k (plain falsum)).node

-- what operands became are literals of the net
abbrev pub AreLiterals : Net → List ℕ → List ℕ → List Operand → Type 0
AreLiterals a inputs row os = (k : ℕ) → k < length os → IsThere (length a.inputs) (length a.gates) (through inputs row (slice_index_or os k (plain falsum))).node

abbrev pub output_through : List ℕ → List ℕ → NamedOutput → NamedOutput
output_through inputs row o = record { name = o.name; operand = through inputs row o.operand }
