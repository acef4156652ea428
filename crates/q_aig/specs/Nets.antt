-- And-inverter graphs whose literals are numbers: 0 is false, 1 is true, and of a literal and its negation the
-- odd one is the negated one.
use Rattle.std.specs.Prelude.{◌≡◌, ◌≢◌, ◌<◌, ◌≤◌, ℕ, ◌/◌, ◌-◌, ◌%◌, ◌==◌, not, if◌then◌else◌, List, [], length, slice_index_or}
use Rattle.q_logic.specs.Prelude.{Circuit, GateNode, falsum, input_at, gate_at, Operand, Gate, IsThere, AreGates, operand_tree, gate_trees}

-- inputs are variables
pub record Net : Type 0 where
  pub inputs : List ℕ
  pub gates : List Gate

-- the input i has the number 2i + 1, the gate g has 2g + 2
abbrev pub node_of : ℕ → GateNode
node_of n =
    if n == 0 then falsum else (if n % 2 == 1 then input_at (n / 2) else gate_at (n / 2 - 1))

-- what a literal stands for
abbrev pub operand_of : ℕ → Operand
operand_of l = record { node = node_of (l / 2); negated = l % 2 == 1 }

abbrev pub turned : Operand → Operand
turned o = record { node = o.node; negated = not o.negated }

-- a literal and its negation
abbrev pub AreOpposite : ℕ → ℕ → Type 0
AreOpposite a b = (a / 2 ≡ b / 2) × (a ≢ b)

-- the gate of two literals
abbrev pub gate_of : ℕ × ℕ → Gate
gate_of p = record { left = operand_of p.0; right = operand_of p.1 }

-- a literal of the net
abbrev pub IsLiteral : Net → ℕ → Type 0
IsLiteral a l = IsThere (length a.inputs) (length a.gates) (operand_of l).node

-- the tree that a literal stands for
abbrev pub tree_at : Net → ℕ → Circuit
tree_at a l = operand_tree a.inputs (gate_trees a.inputs [] a.gates) (operand_of l)

-- no variable is an input twice
abbrev pub AreDistinct : List ℕ → Type 0
AreDistinct xs =
    (i j : ℕ) → i < length xs → j < length xs → slice_index_or xs i 0 ≡ slice_index_or xs j 0 → i ≡ j

-- the variable is no input
abbrev pub IsNew : List ℕ → ℕ → Type 0
IsNew xs v = (i : ℕ) → i < length xs → slice_index_or xs i 0 ≢ v

-- what each net is
pub record IsNet (a : Net) : Type 0 where
  pub few_inputs : length a.inputs ≤ 1152921504606846976
  pub few_gates : length a.gates ≤ 1152921504606846976
  pub distinct : AreDistinct a.inputs
  pub ordered : AreGates (length a.inputs) 0 a.gates

-- each literal of the old net is one of the new net, and stands for the same tree
abbrev pub Keeps : Net → Net → Type 0
Keeps old new = (l : ℕ) → IsLiteral old l → IsLiteral new l × (tree_at new l ≡ tree_at old l)
