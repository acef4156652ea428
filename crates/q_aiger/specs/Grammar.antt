-- The grammar of circuit files (ASCII AIGER 1.9, without latches, with variables as symbols): what is written in a file, line
-- by line, what it has to obey, and which circuits it means.
use Rattle.std.specs.Prelude.{◌≡◌, ◌≢◌, ◌⊎◌, ℕ, ◌+◌, ◌*◌, ◌/◌, ◌%◌, ◌==◌, ◌≤◌, ◌<◌, List, [], ◌∷◌, ◌++◌, length, map, Some, slice_index_or}
use Rattle.std.specs.List.{AllByRecursion, AllZip}
use Rattle.q_logic.specs.Prelude.{ArePairs, GateNode, falsum, input_at, gate_at, Operand, Gate, CertificateView}
use Rattle.q_text.specs.Words.{digits}
use Rattle.q_gates.specs.Uses.{IsFullOrder}
use Rattle.q_aiger.specs.declared.error.AigerError.{AigerError}
use Rattle.q_aiger.specs.declared.error.AigerError.TheVariants.{Refused, NoMemory}
use Rattle.q_aiger.specs.Lines.{words, lines_of}
use Rattle.q_aiger.specs.Symbols.{AreApart}
use Rattle.q_aiger.specs.Circuits.{sorted_circuits}

-- a gate: its variable, and the literals of its operands
pub record Definition : Type 0 where
  pub var : ℕ
  pub left : ℕ
  pub right : ℕ

abbrev pub no_definition : Definition
no_definition = record { var = 0; left = 0; right = 0 }

-- what a line of symbols says: nothing, or the name of an input or an output, by its place
pub data Label : Type 0 where
  blank : Label
  of_input : ℕ → ℕ → Label
  of_output : ℕ → ℕ → Label

-- what is written: M, the variables of the inputs, the literals of the outputs, the gates, and the symbols
pub record Text : Type 0 where
  pub max : ℕ
  pub inputs : List ℕ
  pub outputs : List ℕ
  pub gates : List Definition
  pub labels : List Label

-- the words are these numbers, in digits
abbrev pub AreNumbers : List (List ℕ) → List ℕ → Type 0
AreNumbers ws ns = AllZip (λ w n. digits w ≡ Some n) ws ns

-- the line is these numbers
abbrev pub IsLine : List ℕ → List ℕ → Type 0
IsLine l ns = AreNumbers (words l) ns

-- `aag M I L O A`, where L is 0
pub record IsHeader (l : List ℕ) (t : Text) : Type 0 where
  pub numbers : List (List ℕ)
  pub spelled : words l ≡ (97 ∷ 97 ∷ 103 ∷ []) ∷ numbers
  pub are : AreNumbers numbers (t.max ∷ length t.inputs ∷ 0 ∷ length t.outputs ∷ length t.gates ∷ [])

abbrev pub input_numbers : List ℕ → List (List ℕ)
input_numbers vs = map (λ v. 2 * v ∷ []) vs

abbrev pub output_numbers : List ℕ → List (List ℕ)
output_numbers ls = map (λ l. l ∷ []) ls

abbrev pub gate_numbers : List Definition → List (List ℕ)
gate_numbers gs = map (λ g. 2 * g.var ∷ g.left ∷ g.right ∷ []) gs

-- `iN name` or `oN name`
pub record IsSymbol (letter : ℕ) (l : List ℕ) (place name : ℕ) : Type 0 where
  pub left : List ℕ
  pub right : List ℕ
  pub spelled : words l ≡ (letter ∷ left) ∷ right ∷ []
  pub place_is : digits left ≡ Some place
  pub name_is : digits right ≡ Some name

abbrev pub Says : List ℕ → Label → Type 0
Says l blank = words l ≡ []
Says l (of_input i v) = IsSymbol 105 l i v
Says l (of_output i v) = IsSymbol 111 l i v

-- nothing more, or the line `c` and whatever stands behind it
abbrev pub IsEnd : List (List ℕ) → Type 0
IsEnd [] = Unit {0}
IsEnd (l ∷ ls) = words l ≡ (99 ∷ []) ∷ []

-- the lines are the text: a line for the header, one for each input, output and gate, and one for each symbol
pub record IsSpelled (ls : List (List ℕ)) (t : Text) : Type 0 where
  pub header : List ℕ
  pub inputs : List (List ℕ)
  pub outputs : List (List ℕ)
  pub gates : List (List ℕ)
  pub symbols : List (List ℕ)
  pub behind : List (List ℕ)
  pub lines : ls ≡ header ∷ (inputs ++ (outputs ++ (gates ++ (symbols ++ behind))))
  pub header_is : IsHeader header t
  pub inputs_are : AllZip IsLine inputs (input_numbers t.inputs)
  pub outputs_are : AllZip IsLine outputs (output_numbers t.outputs)
  pub gates_are : AllZip IsLine gates (gate_numbers t.gates)
  pub symbols_are : AllZip Says symbols t.labels
  pub end : IsEnd behind

abbrev pub IsVar : ℕ → ℕ → Type 0
IsVar max v = (1 ≤ v) × (v ≤ max)

abbrev pub IsLiteral : ℕ → ℕ → Type 0
IsLiteral max l = l ≤ 2 * max + 1

abbrev pub IsDefinition : ℕ → Definition → Type 0
IsDefinition max g = IsVar max g.var × IsLiteral max g.left × IsLiteral max g.right

-- the variables that are defined
abbrev pub variables : Text → List ℕ
variables t = t.inputs ++ map (λ g. g.var) t.gates

-- no number stands twice
abbrev pub AreOnce : List ℕ → Type 0
AreOnce xs = (i j : ℕ) → i < length xs → j < length xs → slice_index_or xs i 0 ≡ slice_index_or xs j 0 → i ≡ j

pub record IsLawful (t : Text) : Type 0 where
  pub max : t.max ≤ 268435456
  pub room : length t.inputs + length t.gates ≤ t.max
  pub inputs : AllByRecursion (IsVar t.max) t.inputs
  pub outputs : AllByRecursion (IsLiteral t.max) t.outputs
  pub gates : AllByRecursion (IsDefinition t.max) t.gates
  pub once : AreOnce (variables t)

-- what a variable stands for: the variable 0 is the constant, the literals 0 and 1
pub data Stands (t : Text) (v : ℕ) : GateNode → Type 0 where
  constant : v ≡ 0 → Stands t v falsum
  input : (i : ℕ) → i < length t.inputs → slice_index_or t.inputs i 0 ≡ v → Stands t v (input_at i)
  gate : (g : ℕ) → g < length t.gates → (slice_index_or t.gates g no_definition).var ≡ v → Stands t v (gate_at g)

-- what a literal stands for
abbrev pub IsOperand : Text → ℕ → Operand → Type 0
IsOperand t l o = Stands t (l / 2) o.node × (o.negated ≡ (l % 2 == 1))

abbrev pub IsGate : Text → Definition → Gate → Type 0
IsGate t d g = IsOperand t d.left g.left × IsOperand t d.right g.right

-- places of inputs with their names
abbrev pub input_labels : List Label → List (ℕ × ℕ)
input_labels [] = []
input_labels (blank ∷ ls) = input_labels ls
input_labels (of_input i v ∷ ls) = (i, v) ∷ input_labels ls
input_labels (of_output i v ∷ ls) = input_labels ls

abbrev pub output_labels : List Label → List (ℕ × ℕ)
output_labels [] = []
output_labels (blank ∷ ls) = output_labels ls
output_labels (of_input i v ∷ ls) = output_labels ls
output_labels (of_output i v ∷ ls) = (i, v) ∷ output_labels ls

abbrev pub IsLabelled : List (ℕ × ℕ) → ℕ → Type 0
IsLabelled [] i = ⊥
IsLabelled (p ∷ ps) i = (p.0 ≡ i) ⊎ IsLabelled ps i

-- each place has exactly one label, which is its name; names are variables, and no two are the same
pub record AreNames (labels : List (ℕ × ℕ)) (names : List ℕ) : Type 0 where
  pub once : ArePairs (λ p q. p.0 ≢ q.0) labels
  pub given : AllByRecursion (λ p. (p.0 < length names) × (slice_index_or names p.0 0 ≡ p.1)) labels
  pub all_there : (i : ℕ) → i < length names → IsLabelled labels i
  pub variables : (i : ℕ) → i < length names → (1 ≤ slice_index_or names i 0) × (slice_index_or names i 0 ≤ 16777215)
  pub apart : AreApart names

-- the text means these circuits, with the gates in the order of their lines
pub record Means (t : Text) (c : CertificateView) : Type 0 where
  pub inputs : length c.inputs ≡ length t.inputs
  pub input_names : AreNames (input_labels t.labels) c.inputs
  pub outputs : AllZip (IsOperand t) t.outputs (map (λ o. o.operand) c.outputs)
  pub output_names : AreNames (output_labels t.labels) (map (λ o. o.name) c.outputs)
  pub gates : AllZip (IsGate t) t.gates c.gates

-- the bytes are a file whose lines are these circuits
pub record IsFile (bytes : List ℕ) (c : CertificateView) : Type 0 where
  pub text : Text
  pub short : length bytes ≤ 1099511627776
  pub spelled : IsSpelled (lines_of bytes) text
  pub lawful : IsLawful text
  pub means : Means text c

-- the bytes are a circuit file, and these are its circuits, with the gates in some order in which operands come first: so
-- no gate depends on itself
pub record Circuits (bytes : List ℕ) (c : CertificateView) : Type 0 where
  pub written : CertificateView
  pub file : IsFile bytes written
  pub order : List ℕ
  pub full : IsFullOrder written.gates order
  pub sorted : c ≡ sorted_circuits order written

-- a refusal says that the bytes are no circuit file
abbrev pub IsNoFile : List ℕ → AigerError → Type 0
IsNoFile bytes (Refused line cause) = (c : CertificateView) → Circuits bytes c → ⊥
IsNoFile bytes NoMemory = Unit {0}
