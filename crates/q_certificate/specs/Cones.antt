-- The gates that the outputs of a certificate need.
use Rattle.std.specs.Prelude.{◌≡◌, ℕ, Bool, true, false, List, slice_get, slice_index_or, Some}
use Rattle.q_logic.specs.Prelude.{IsIn, GateNode, gate_at, Gate, NamedOutput, CertificateView}

-- the node is an output's, or an operand of a gate that is
pub data InCones (c : CertificateView) : GateNode → Type 0 where
  output : (o : NamedOutput) → IsIn o c.outputs → InCones c o.operand.node
  left : (g : ℕ) → (x : Gate) → slice_get c.gates g ≡ Some x → InCones c (gate_at g) → InCones c x.left.node
  right : (g : ℕ) → (x : Gate) → slice_get c.gates g ≡ Some x → InCones c (gate_at g) → InCones c x.right.node

-- each gate that some output needs is marked
abbrev pub HasCones : CertificateView → List Bool → Type 0
HasCones c marks = (g : ℕ) → InCones c (gate_at g) → slice_index_or marks g false ≡ true
