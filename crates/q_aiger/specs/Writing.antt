-- The canonical text of a certificate (ASCII AIGER 1.9): the header, a line for each input, each output and
-- each gate in the cone of an output, and their names.
use Rattle.std.specs.Prelude.{◌≡◌, ℕ, zero, suc, ◌+◌, ◌*◌, List, [], ◌∷◌, ◌++◌, length, map, max, min, if◌then◌else◌, slice_index_or}
use Rattle.std.specs.Fmt.{decimal}
use Rattle.q_logic.specs.Prelude.{GateNode, falsum, input_at, gate_at, Operand, Gate, NamedOutput, CertificateView}
use Rattle.q_gates.specs.Gates.{no_gate}
use Rattle.q_aiger.specs.Cones.{AreCones, place_in}

-- the inputs have the numbers from 1 on, the gates the numbers behind these
abbrev pub number_of : ℕ → List ℕ → GateNode → ℕ
number_of inputs kept falsum = 0
number_of inputs kept (input_at i) = i + 1
number_of inputs kept (gate_at g) = inputs + 1 + place_in kept g

abbrev pub literal_of : ℕ → List ℕ → Operand → ℕ
literal_of inputs kept o = 2 * number_of inputs kept o.node + (if o.negated then 1 else 0)

-- a number and a space
abbrev pub number_word : ℕ → List ℕ
number_word n = decimal n ++ 32 ∷ []

-- a number and LF
abbrev pub number_line : ℕ → List ℕ
number_line n = decimal n ++ 10 ∷ []

-- `aag M I 0 O A`
abbrev pub header_line : ℕ → ℕ → ℕ → List ℕ
header_line inputs outputs gates =
    97 ∷ 97 ∷ 103 ∷ 32 ∷ number_word (inputs + gates) ++ (number_word inputs ++ (48 ∷ 32 ∷ number_word outputs ++ number_line gates))

-- so many inputs from the number i on
abbrev pub input_lines : ℕ → ℕ → List ℕ
input_lines i zero = []
input_lines i (suc n) = number_line (2 * (i + 1)) ++ input_lines (i + 1) n

abbrev pub output_lines : ℕ → List ℕ → List NamedOutput → List ℕ
output_lines inputs kept [] = []
output_lines inputs kept (o ∷ os) = number_line (literal_of inputs kept o.operand) ++ output_lines inputs kept os

-- a gate: its literal, then its operands, the greater one first
abbrev pub gate_line : ℕ → ℕ → ℕ → List ℕ
gate_line l a b = number_word l ++ (number_word (max a b) ++ number_line (min a b))

abbrev pub gate_text : ℕ → List ℕ → ℕ → Gate → List ℕ
gate_text inputs kept j g =
    gate_line (2 * (inputs + 1 + j)) (literal_of inputs kept g.left) (literal_of inputs kept g.right)

-- these gates, of which the first is the gate j of the text
abbrev pub gate_lines : List Gate → ℕ → List ℕ → ℕ → List ℕ → List ℕ
gate_lines gates inputs kept j [] = []
gate_lines gates inputs kept j (g ∷ gs) =
    gate_text inputs kept j (slice_index_or gates g no_gate) ++ gate_lines gates inputs kept (j + 1) gs

-- a letter, a place, and the name
abbrev pub symbol_line : ℕ → ℕ → ℕ → List ℕ
symbol_line letter i name = letter ∷ number_word i ++ number_line name

abbrev pub symbol_lines : ℕ → ℕ → List ℕ → List ℕ
symbol_lines letter i [] = []
symbol_lines letter i (v ∷ vs) = symbol_line letter i v ++ symbol_lines letter (i + 1) vs

abbrev pub names_of : List NamedOutput → List ℕ
names_of outputs = map (λ o. o.name) outputs

-- the text, with these gates
abbrev pub circuit_text : CertificateView → List ℕ → List ℕ
circuit_text c kept =
    header_line (length c.inputs) (length c.outputs) (length kept)
    ++ (input_lines 0 (length c.inputs)
    ++ (output_lines (length c.inputs) kept c.outputs
    ++ (gate_lines c.gates (length c.inputs) kept 0 kept
    ++ (symbol_lines 105 0 c.inputs
    ++ symbol_lines 111 0 (names_of c.outputs)))))

-- the canonical text: the gates are those in the cones of the outputs, and there are so many
pub record IsCanonical (c : CertificateView) (gates : ℕ) (text : List ℕ) : Type 0 where
  pub kept : List ℕ
  pub cones : AreCones c kept
  pub is : text ≡ circuit_text c kept
  pub count : gates ≡ length kept

-- the canonical text stands behind what was there
pub record IsCanonicalBehind (c : CertificateView) (gates : ℕ) (old new : List ℕ) : Type 0 where
  pub text : List ℕ
  pub canonical : IsCanonical c gates text
  pub behind : new ≡ old ++ text
