-- A graph with slots, built without them.
use Rattle.std.specs.Prelude.{◌≡◌, ◌<◌, ◌≤◌, ℕ, ◌+◌, cond, nat_lt, List, [], ◌∷◌, length, take, slice_index_or, slice_get, Option, Some}
use Rattle.q_logic.specs.Prelude.{Circuit, GateNode, falsum, input_at, gate_at, Gate}
use Rattle.q_aig.specs.Prelude.{Net, IsLiteral, tree_at, operand_of, Serves}
use Rattle.q_certificate.specs.Prelude.{look_at, AreLiterals, or_zero, copied_operand, tree_of_gate, IsGrown}
use Rattle.q_herbrand.specs.declared.slots.Slots.{Slots}
use Rattle.q_herbrand.specs.declared.building.Settled.{Settled}
use Rattle.q_gates.specs.Uses.{Parts, IsFullOrder}
use Rattle.q_herbrand.specs.Nodes.{AreNodes}
use Rattle.q_herbrand.specs.Under.{under}
use Rattle.q_herbrand.specs.Slots.{IsResolved}

-- how many of these nodes are gates, where k slots come first
abbrev pub gates_among : ℕ → List ℕ → ℕ
gates_among k [] = 0
gates_among k (x ∷ xs) = cond (nat_lt x k) (gates_among k xs) (gates_among k xs + 1)

-- the literal of an input by its place
abbrev pub row_literal : List (Option ℕ) → ℕ → ℕ
row_literal ins x = or_zero (look_at ins x)

-- the slot, which is an input of the draft, has its literal
abbrev pub SlotStands : Net → Net → Settled → (ℕ → Circuit) → ℕ → Type 0
SlotStands draft now m r s = (i : ℕ) → i < length draft.inputs → slice_index_or draft.inputs i 0 ≡ s →
    Serves (tree_at now (row_literal m.slots.items s)) (r s)

-- the gate has its literal
abbrev pub GateStands : Net → Net → Settled → (ℕ → Circuit) → ℕ → Type 0
GateStands draft now m r g =
    Serves (tree_at now (slice_index_or m.gates.items g 0)) (under r (tree_of_gate draft g))

-- a node of the draft has its literal
abbrev pub NodeStands : Net → Net → Settled → (ℕ → Circuit) → GateNode → Type 0
NodeStands draft now m r falsum = Unit {0}
NodeStands draft now m r (input_at i) =
    Serves (tree_at now (row_literal m.slots.items (slice_index_or draft.inputs i 0)))
    (r (slice_index_or draft.inputs i 0))
NodeStands draft now m r (gate_at g) = GateStands draft now m r g

-- the rows have room for all nodes, and hold literals
pub record AreRows (draft now : Net) (z : Slots) (m : Settled) : Type 0 where
  pub slots_room : length m.slots.items ≡ length z.definitions.items
  pub gates_room : length m.gates.items ≡ length draft.gates
  pub slots : AreLiterals now m.slots.items
  pub gates : (g : ℕ) → IsLiteral now (slice_index_or m.gates.items g 0)

-- the first nodes of the order are built
pub record AreBuilt (draft base now : Net) (z : Slots) (m : Settled) (order : List ℕ) (n : ℕ) : Type 0 where
  pub grown : IsGrown base now (gates_among (length z.definitions.items) (take n order))
  pub rows : AreRows draft now z m
  pub slots : (r : ℕ → Circuit) → IsResolved draft z r → (i s : ℕ) → i < n → slice_index_or order i 0 ≡ s →
      s < length z.definitions.items → SlotStands draft now m r s
  pub gates : (r : ℕ → Circuit) → IsResolved draft z r → (i g : ℕ) → i < n →
      slice_index_or order i 0 ≡ length z.definitions.items + g → GateStands draft now m r g

-- one more node is built
pub record IsBuilt (draft before after : Net) (z : Slots) (m m2 : Settled) (node : ℕ) : Type 0 where
  pub grown : IsGrown before after (cond (nat_lt node (length z.definitions.items)) 0 1)
  pub rows : AreRows draft after z m2
  pub other_slots : (s : ℕ) → ((s ≡ node) → ⊥) → look_at m2.slots.items s ≡ look_at m.slots.items s
  pub other_gates : (g : ℕ) → ((length z.definitions.items + g ≡ node) → ⊥) →
      slice_index_or m2.gates.items g 0 ≡ slice_index_or m.gates.items g 0
  pub slot : (r : ℕ → Circuit) → IsResolved draft z r → node < length z.definitions.items →
      ((l : ℕ) → look_at z.definitions.items node ≡ Some l → NodeStands draft before m r (operand_of l).node) →
      SlotStands draft after m2 r node
  pub gate : (r : ℕ → Circuit) → (g : ℕ) → node ≡ length z.definitions.items + g →
      ((x : Gate) → slice_get draft.gates g ≡ Some x →
      NodeStands draft before m r x.left.node × NodeStands draft before m r x.right.node) →
      GateStands draft after m2 r g

-- all is built
pub record IsSettled (draft base now : Net) (z : Slots) (m : Settled) : Type 0 where
  pub inputs : now.inputs ≡ base.inputs
  pub gates : length now.gates ≤ length base.gates + length draft.gates
  pub rows : AreRows draft now z m
  pub serves : (r : ℕ → Circuit) → IsResolved draft z r → (k l : ℕ) → IsLiteral draft l →
      operand_of k ≡ copied_operand draft.inputs m.slots.items m.gates.items (operand_of l) →
      Serves (tree_at now k) (under r (tree_at draft l))

-- the copy of one gate
pub record IsCopied (draft before after : Net) (m : Settled) (gate l : ℕ) : Type 0 where
  pub grown : IsGrown before after 1
  pub there : IsLiteral after l
  pub serves : (r : ℕ → Circuit) → ((x : Gate) → slice_get draft.gates gate ≡ Some x →
      NodeStands draft before m r x.left.node × NodeStands draft before m r x.right.node) →
      Serves (tree_at after l) (under r (tree_of_gate draft gate))

-- an order of all nodes in which each stands behind what it uses
pub record IsOrdered (draft : Net) (z : Slots) (order : List ℕ) : Type 0 where
  pub nodes : Parts
  pub are : AreNodes draft z.definitions.items nodes
  pub full : IsFullOrder nodes order
