-- Slots and gates as gates in any order: the slots first. A slot uses what it was filled with.
use Rattle.std.specs.Prelude.{◌≡◌, ◌<◌, ℕ, ◌+◌, List, length, slice_index_or, slice_get, Option, Some, None}
use Rattle.q_logic.specs.Prelude.{GateNode, falsum, input_at, gate_at, Gate}
use Rattle.q_aig.specs.Prelude.{Net, operand_of}
use Rattle.q_certificate.specs.Prelude.{look_at}
use Rattle.q_gates.specs.Uses.{Parts, part_at}

-- which node a node of the graph is, if it is no constant; k slots come first
abbrev pub node_part : ℕ → List ℕ → GateNode → Option ℕ
node_part k names falsum = None
node_part k names (input_at i) = Some (slice_index_or names i 0)
node_part k names (gate_at g) = Some (k + g)

-- the node that a slot was filled with
abbrev pub filled_part : ℕ → List ℕ → Option ℕ → Option ℕ
filled_part k names None = None
filled_part k names (Some l) = node_part k names (operand_of l).node

-- nodes for the first slots
pub record AreSlotNodes (a : Net) (k : ℕ) (definitions : List (Option ℕ)) (n : ℕ) (ps : Parts) : Type 0 where
  pub room : length ps ≡ n
  pub parts : (s : ℕ) → s < n → part_at ps s ≡ (filled_part k a.inputs (look_at definitions s), None)

-- nodes for the first gates, behind others
pub record AreGateNodes (a : Net) (k : ℕ) (old : Parts) (n : ℕ) (ps : Parts) : Type 0 where
  pub room : length ps ≡ length old + n
  pub kept : (s : ℕ) → s < length old → part_at ps s ≡ part_at old s
  pub parts : (g : ℕ) → (x : Gate) → g < n → slice_get a.gates g ≡ Some x →
      part_at ps (length old + g) ≡ (node_part k a.inputs x.left.node, node_part k a.inputs x.right.node)

-- nodes for all slots and all gates
pub record AreNodes (a : Net) (definitions : List (Option ℕ)) (ps : Parts) : Type 0 where
  pub room : length ps ≡ length definitions + length a.gates
  pub slots : (s : ℕ) → s < length definitions →
      part_at ps s ≡ (filled_part (length definitions) a.inputs (look_at definitions s), None)
  pub gates : (g : ℕ) → (x : Gate) → slice_get a.gates g ≡ Some x →
      part_at ps (length definitions + g) ≡
      (node_part (length definitions) a.inputs x.left.node, node_part (length definitions) a.inputs x.right.node)
