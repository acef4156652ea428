-- Gates that use other gates, in any order.
use Rattle.q_logic.specs.Prelude.{GateNode, falsum, input_at, gate_at, Gate}
use Rattle.q_gates.specs.Gates.{no_gate}
use Rattle.std.specs.Prelude.{◌≡◌, ◌<◌, ℕ, List, length, slice_index_or, Option, Some, None, ◌⊎◌}

-- gates by their places
abbrev pub Parts : Type 0
Parts = List Gate

-- the gate that a node is
abbrev pub part_of : GateNode → Option ℕ
part_of falsum = None
part_of (input_at i) = None
part_of (gate_at g) = Some g

abbrev pub parts_of : Gate → Option ℕ × Option ℕ
parts_of g = (part_of g.left.node, part_of g.right.node)

-- of each gate the gates that its operands are, where they are gates
abbrev pub part_at : Parts → ℕ → Option ℕ × Option ℕ
part_at ps g = parts_of (slice_index_or ps g no_gate)

abbrev pub Uses : Parts → ℕ → ℕ → Type 0
Uses ps g h = ((part_at ps g).0 ≡ Some h) ⊎ ((part_at ps g).1 ≡ Some h)

-- there is a chain of uses from one gate to another
pub data DependsOn (ps : Parts) (g : ℕ) : ℕ → Type 0 where
  direct : (h : ℕ) → Uses ps g h → DependsOn ps g h
  further : (h k : ℕ) → DependsOn ps g h → Uses ps h k → DependsOn ps g k

-- each gate that is used is there
abbrev pub AreDefined : Parts → Type 0
AreDefined ps = (g h : ℕ) → g < length ps → Uses ps g h → h < length ps

-- the first gate that depends on itself
pub record IsFirstCycle (ps : Parts) (g : ℕ) : Type 0 where
  pub there : g < length ps
  pub cycle : DependsOn ps g g
  pub first : (h : ℕ) → h < g → DependsOn ps h h → ⊥

-- an order in which what is used comes first: some gates, each once
pub record IsOrder (ps : Parts) (order : List ℕ) : Type 0 where
  pub once : (i j : ℕ) → i < length order → j < length order → slice_index_or order i 0 ≡ slice_index_or order j 0 → i ≡ j
  pub there : (i : ℕ) → i < length order → slice_index_or order i 0 < length ps
  pub earlier : (i h : ℕ) → i < length order → Uses ps (slice_index_or order i 0) h → (j : ℕ) × (j < i) × (slice_index_or order j 0 ≡ h)

-- of all gates
pub record IsFullOrder (ps : Parts) (order : List ℕ) : Type 0 where
  pub sorted : IsOrder ps order
  pub all : (g : ℕ) → g < length ps → (i : ℕ) × (i < length order) × (slice_index_or order i 0 ≡ g)

-- no gate depends on itself
abbrev pub NoCycle : Parts → Type 0
NoCycle ps = (g : ℕ) → DependsOn ps g g → ⊥
