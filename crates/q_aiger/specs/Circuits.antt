-- What a whole file says: its circuits, or its first offence.
use Rattle.std.specs.Prelude.{◌≡◌, ℕ, ◌+◌, nat_le, List, [], ◌∷◌, length, take, map, if◌then◌else◌, Result, Ok, Err, slice_index_or}
use Rattle.q_logic.specs.Prelude.{GateNode, falsum, input_at, gate_at, Operand, Gate, NamedOutput, CertificateView}
use Rattle.q_text.specs.Texts.{line_after}
use Rattle.q_aiger.specs.declared.error.AigerError.{AigerError}
use Rattle.q_aiger.specs.declared.error.AigerError.TheVariants.{Refused, NoMemory}
use Rattle.q_gates.specs.Gates.{no_gate}
use Rattle.q_aiger.specs.Cones.{place_in}
use Rattle.q_aiger.specs.Lines.{lines_of}
use Rattle.q_aiger.specs.Headers.{Header, header_of, limit}
use Rattle.q_aiger.specs.Items.{Items, items_of}
use Rattle.q_aiger.specs.Symbols.{Names, names_from, no_names}
use Rattle.q_aiger.specs.Operands.{outputs_from, gates_from}
use Rattle.q_gates.specs.Uses.{IsFullOrder, IsFirstCycle}

abbrev pub first_line : List (List ℕ) → List ℕ
first_line [] = []
first_line (l ∷ ls) = l

abbrev pub other_lines : List (List ℕ) → List (List ℕ)
other_lines [] = []
other_lines (l ∷ ls) = ls

abbrev pub on_line : {X : Type 0} → ℕ → Result X ℕ → Result X (ℕ × ℕ)
on_line n (Ok x) = Ok x
on_line n (Err c) = Err (n, c)

abbrev pub and_then : {X Y : Type 0} → Result X (ℕ × ℕ) → (X → Result Y (ℕ × ℕ)) → Result Y (ℕ × ℕ)
and_then (Ok x) f = f x
and_then (Err e) f = Err e

-- the byte past the limit on bytes
abbrev pub few_bytes : List ℕ → Header → Result Header (ℕ × ℕ)
few_bytes bytes h =
    if nat_le (length bytes) 1099511627776 then Ok h else Err (line_after (take 1099511627776 bytes), limit)

abbrev pub with_names : List ℕ → List Operand → List NamedOutput
with_names [] os = []
with_names (v ∷ vs) [] = []
with_names (v ∷ vs) (o ∷ os) = record { name = v; operand = o } ∷ with_names vs os

-- the circuits of items and names: literals that no line defines are an offence of the first line with one
abbrev pub circuits_of : Header → Items → Names → Result CertificateView (ℕ × ℕ)
circuits_of h s names =
    and_then (outputs_from h.inputs s.defined (2 + h.inputs) [] s.outputs)
    (λ os. and_then (gates_from h.inputs s.defined (2 + h.inputs + h.outputs) [] s.operands)
    (λ gs. Ok (record { inputs = names.inputs; gates = gs; outputs = with_names names.outputs os })))

abbrev pub items_in : ℕ → List (List ℕ) → Header → Result CertificateView (ℕ × ℕ)
items_in e ls h =
    and_then (items_of h e ls)
    (λ b. and_then (names_from e b.line (no_names h.inputs h.outputs) b.lines)
    (λ names. circuits_of h b.items names))

-- the circuits of the file with its gates in the order of the lines, or the first offence but for cycles: its
-- line and its cause
abbrev pub parse : List ℕ → Result CertificateView (ℕ × ℕ)
parse bytes =
    and_then (on_line 1 (header_of (first_line (lines_of bytes))))
    (λ h. and_then (few_bytes bytes h) (items_in (line_after bytes) (other_lines (lines_of bytes))))

-- a gate by its place in an order
abbrev pub moved_node : List ℕ → GateNode → GateNode
moved_node order falsum = falsum
moved_node order (input_at i) = input_at i
moved_node order (gate_at g) = gate_at (place_in order g)

abbrev pub moved : List ℕ → Operand → Operand
moved order o = record { node = moved_node order o.node; negated = o.negated }

abbrev pub moved_gate : List ℕ → Gate → Gate
moved_gate order g = record { left = moved order g.left; right = moved order g.right }

abbrev pub moved_output : List ℕ → NamedOutput → NamedOutput
moved_output order o = record { name = o.name; operand = moved order o.operand }

-- the same circuits with the gates in this order
abbrev pub sorted_circuits : List ℕ → CertificateView → CertificateView
sorted_circuits order f = record {
  inputs = f.inputs;
  gates = map (λ g. moved_gate order (slice_index_or f.gates g no_gate)) order;
  outputs = map (moved_output order) f.outputs;
}

-- the circuits of the file, with the gates in some order in which operands come first
pub record AreCircuits (bytes : List ℕ) (c : CertificateView) : Type 0 where
  pub written : CertificateView
  pub parsed : parse bytes ≡ Ok written
  pub order : List ℕ
  pub full : IsFullOrder written.gates order
  pub sorted : c ≡ sorted_circuits order written

abbrev pub cycle : ℕ
cycle = 6

-- the first offence: a gate that depends on itself comes behind all others
pub data Offence (bytes : List ℕ) : ℕ → ℕ → Type 0 where
  refused : (line cause : ℕ) → parse bytes ≡ Err (line, cause) → Offence bytes line cause
  cyclic : (f : CertificateView) (g : ℕ) → parse bytes ≡ Ok f → IsFirstCycle f.gates g → Offence bytes (2 + length f.inputs + length f.outputs + g) cycle

abbrev pub FailsWith : List ℕ → AigerError → Type 0
FailsWith bytes (Refused line cause) = Offence bytes line cause
FailsWith bytes NoMemory = Unit {0}
