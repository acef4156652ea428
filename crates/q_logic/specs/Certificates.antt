-- Certificates: circuits with shared gates, and the trees that they stand for. (ASCII AIGER, with names that
-- are numbers of variables.)
use Rattle.std.specs.Prelude.{◌<◌, ℕ, ◌+◌, Bool, false, cond, eqb, List, [], ◌∷◌, ◌++◌, slice_index_or, Option, Some, None}
use Rattle.q_logic.specs.Circuits.{Circuit}
use Rattle.q_logic.specs.Skolems.{Strategy}

-- what a gate may read: the constant false, an input or a gate by its place
pub data GateNode : Type 0 where
  falsum : GateNode
  input_at : ℕ → GateNode
  gate_at : ℕ → GateNode

-- a node or its negation
pub record Operand : Type 0 where
  pub node : GateNode
  pub negated : Bool

-- a conjunction
pub record Gate : Type 0 where
  pub left : Operand
  pub right : Operand

-- the circuit of a variable
pub record NamedOutput : Type 0 where
  pub name : ℕ
  pub operand : Operand

-- inputs are variables
pub record CertificateView : Type 0 where
  pub inputs : List ℕ
  pub gates : List Gate
  pub outputs : List NamedOutput

-- the node is there, among so many inputs and gates
abbrev pub IsThere : ℕ → ℕ → GateNode → Type 0
IsThere inputs gates falsum = Unit {0}
IsThere inputs gates (input_at i) = i < inputs
IsThere inputs gates (gate_at g) = g < gates

-- each gate reads inputs and earlier gates; so many gates stand before
abbrev pub AreGates : ℕ → ℕ → List Gate → Type 0
AreGates inputs before [] = Unit {0}
AreGates inputs before (g ∷ gates) =
    IsThere inputs before g.left.node × IsThere inputs before g.right.node ×
    AreGates inputs (before + 1) gates

-- the tree of a node, by the trees of the gates
abbrev pub node_tree : List ℕ → List Circuit → GateNode → Circuit
node_tree inputs trees falsum = Circuit.constant false
node_tree inputs trees (input_at i) = Circuit.input (slice_index_or inputs i 0)
node_tree inputs trees (gate_at g) = slice_index_or trees g (Circuit.constant false)

-- the tree of an operand, by the trees of the gates
abbrev pub operand_tree : List ℕ → List Circuit → Operand → Circuit
operand_tree inputs trees o =
    cond o.negated
    (Circuit.inverter (node_tree inputs trees o.node))
    (node_tree inputs trees o.node)

-- the tree of a gate
abbrev pub gate_tree : List ℕ → List Circuit → Gate → Circuit
gate_tree inputs trees g =
    Circuit.conjunction (operand_tree inputs trees g.left) (operand_tree inputs trees g.right)

-- the trees of the gates, after those that are there
abbrev pub gate_trees : List ℕ → List Circuit → List Gate → List Circuit
gate_trees inputs trees [] = trees
gate_trees inputs trees (g ∷ gates) =
    gate_trees inputs (trees ++ gate_tree inputs trees g ∷ []) gates

-- the tree of an operand in a certificate
abbrev pub tree_of : CertificateView → Operand → Circuit
tree_of c o = operand_tree c.inputs (gate_trees c.inputs [] c.gates) o

-- the first output of this name
abbrev pub output_named : ℕ → List NamedOutput → Option Operand
output_named x [] = None
output_named x (o ∷ outputs) = cond (eqb o.name x) (Some o.operand) (output_named x outputs)

-- the tree of an operand, if there is one
abbrev pub tree_of_some : CertificateView → Option Operand → Option Circuit
tree_of_some c None = None
tree_of_some c (Some o) = Some (tree_of c o)

-- each output's name has its tree
abbrev pub trees_of : CertificateView → Strategy
trees_of c x = tree_of_some c (output_named x c.outputs)
