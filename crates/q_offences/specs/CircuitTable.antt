-- The table of causes of circuit files, line by line, and the first offence of a file.
use Rattle.std.specs.Prelude.{◌≡◌, ◌≢◌, ◌≤◌, ◌<◌, ◌+◌, ◌*◌, ◌/◌, ◌⊎◌, ℕ, List, [], ◌∷◌, ◌++◌, length, map, take}
use Rattle.std.specs.List.{AllByRecursion, AllZip}
use Rattle.q_logic.specs.Prelude.{ArePairs, CertificateView}
use Rattle.q_text.specs.Texts.{line_after}
use Rattle.q_gates.specs.Uses.{IsFirstCycle}
use Rattle.q_aiger.specs.Lines.{words, lines_of}
use Rattle.q_aiger.specs.Headers.{Counts}
use Rattle.q_aiger.specs.Circuits.{first_line, other_lines}
use Rattle.q_aiger.specs.Grammar.{Definition, Label, AreNumbers, IsLine, IsVar, IsLiteral, IsDefinition, Says, IsEnd, AreOnce, input_labels, output_labels, IsLabelled, IsFile}
use Rattle.q_offences.specs.Tables.{IsFirst}

-- `aag M I L O A`, where M is at least I + L + A
pub record HasCounts (l : List ℕ) (c : Counts) : Type 0 where
  pub numbers : List (List ℕ)
  pub spelled : words l ≡ (97 ∷ 97 ∷ 103 ∷ []) ∷ numbers
  pub are : AreNumbers numbers (c.max ∷ c.inputs ∷ c.latches ∷ c.outputs ∷ c.gates ∷ [])
  pub room : c.inputs + c.latches + c.gates ≤ c.max

-- the first line says these counts
abbrev pub FileHas : List ℕ → Counts → Type 0
FileHas bytes c = HasCounts (first_line (lines_of bytes)) c

-- what is tried first, in this order: the header, and the number of bytes
pub data HeadRow : Type 0 where
  bad_header : HeadRow
  has_latch : HeadRow
  header_limit : HeadRow
  byte_limit : HeadRow

abbrev pub head_table : List HeadRow
head_table = bad_header ∷ has_latch ∷ header_limit ∷ byte_limit ∷ []

abbrev pub HeadApplies : List ℕ → HeadRow → Type 0
HeadApplies bytes bad_header = ¬ ((c : Counts) × FileHas bytes c)
HeadApplies bytes has_latch = (c : Counts) × FileHas bytes c × (1 ≤ c.latches)
HeadApplies bytes header_limit = (c : Counts) × FileHas bytes c × (268435456 < c.max)
HeadApplies bytes byte_limit = 1099511627776 < length bytes

abbrev pub head_cause : HeadRow → ℕ
head_cause bad_header = 1
head_cause has_latch = 3
head_cause header_limit = 9
head_cause byte_limit = 9

abbrev pub head_line : List ℕ → HeadRow → ℕ
head_line bytes bad_header = 1
head_line bytes has_latch = 1
head_line bytes header_limit = 1
head_line bytes byte_limit = line_after (take 1099511627776 bytes)

pub record IsHeadOffence (bytes : List ℕ) (line cause : ℕ) : Type 0 where
  pub row : HeadRow
  pub applies : IsFirst (HeadApplies bytes) head_table row
  pub line_is : line ≡ head_line bytes row
  pub cause_is : cause ≡ head_cause row

-- the counts of a file of which no such row applies
pub record IsHeaded (bytes : List ℕ) (c : Counts) : Type 0 where
  pub says : FileHas bytes c
  pub no_latch : c.latches ≡ 0
  pub max : c.max ≤ 268435456
  pub short : length bytes ≤ 1099511627776

-- lines of an input, an output and a gate
abbrev pub IsInput : ℕ → List ℕ → ℕ → Type 0
IsInput max l v = IsLine l (2 * v ∷ []) × IsVar max v

abbrev pub IsOutput : ℕ → List ℕ → ℕ → Type 0
IsOutput max l x = IsLine l (x ∷ []) × IsLiteral max x

abbrev pub IsGateLine : ℕ → List ℕ → Definition → Type 0
IsGateLine max l d = IsLine l (2 * d.var ∷ d.left ∷ d.right ∷ []) × IsDefinition max d

abbrev pub vars_of : List Definition → List ℕ
vars_of gs = map (λ g. g.var) gs

abbrev pub IsAmong : ℕ → List ℕ → Type 0
IsAmong v [] = ⊥
IsAmong v (w ∷ ws) = (w ≡ v) ⊎ IsAmong v ws

-- the lines are the first ones behind the header: these inputs, outputs and gates, and each is defined once
pub record AreItems (c : Counts) (front : List (List ℕ)) (vs os : List ℕ) (gs : List Definition) : Type 0 where
  pub inputs : List (List ℕ)
  pub outputs : List (List ℕ)
  pub gates : List (List ℕ)
  pub lines : front ≡ inputs ++ (outputs ++ gates)
  pub inputs_are : AllZip (IsInput c.max) inputs vs
  pub outputs_are : AllZip (IsOutput c.max) outputs os
  pub gates_are : AllZip (IsGateLine c.max) gates gs
  pub once : AreOnce (vs ++ vars_of gs)
  pub few_inputs : length vs ≤ c.inputs
  pub few_outputs : length os ≤ c.outputs
  pub few_gates : length gs ≤ c.gates
  pub inputs_first : 1 ≤ length os + length gs → length vs ≡ c.inputs
  pub outputs_first : 1 ≤ length gs → length os ≡ c.outputs

-- the next line is not of its form, or it defines a variable that an earlier line defined
pub data ItemOffence (c : Counts) (l : List ℕ) (vs os : List ℕ) (gs : List Definition) : ℕ → Type 0 where
  bad_input : length vs < c.inputs → ((v : ℕ) → ¬ IsInput c.max l v) → ItemOffence c l vs os gs 2
  twice_input : length vs < c.inputs → (v : ℕ) → IsInput c.max l v → IsAmong v vs → ItemOffence c l vs os gs 4
  bad_output : length vs ≡ c.inputs → length os < c.outputs → ((x : ℕ) → ¬ IsOutput c.max l x) → ItemOffence c l vs os gs 2
  bad_gate : length vs ≡ c.inputs → length os ≡ c.outputs → length gs < c.gates → ((d : Definition) → ¬ IsGateLine c.max l d) → ItemOffence c l vs os gs 2
  twice_gate : length vs ≡ c.inputs → length os ≡ c.outputs → length gs < c.gates → (d : Definition) → IsGateLine c.max l d → IsAmong d.var (vs ++ vars_of gs) → ItemOffence c l vs os gs 4

-- names that may be given: places that are there, each once, and variables, each once
pub record MayName (n : ℕ) (labels : List (ℕ × ℕ)) : Type 0 where
  pub there : AllByRecursion (λ p. (p.0 < n) × (1 ≤ p.1) × (p.1 ≤ 16777215)) labels
  pub once : ArePairs (λ p q. p.0 ≢ q.0) labels
  pub apart : ArePairs (λ p q. p.1 ≢ q.1) labels

-- lines of symbols, and what they say
pub record AreSymbols (c : Counts) (lines : List (List ℕ)) (labels : List Label) : Type 0 where
  pub say : AllZip Says lines labels
  pub inputs : MayName c.inputs (input_labels labels)
  pub outputs : MayName c.outputs (output_labels labels)

abbrev pub AllNamed : ℕ → List (ℕ × ℕ) → Type 0
AllNamed n labels = (i : ℕ) → i < n → IsLabelled labels i

-- the lines behind the header: all items, symbols, and what stands behind these
pub record IsBody (c : Counts) (body : List (List ℕ)) (vs os : List ℕ) (gs : List Definition) (labels : List Label) (behind : List (List ℕ)) : Type 0 where
  pub items : List (List ℕ)
  pub symbols : List (List ℕ)
  pub lines : body ≡ items ++ (symbols ++ behind)
  pub items_are : AreItems c items vs os gs
  pub inputs_all : length vs ≡ c.inputs
  pub outputs_all : length os ≡ c.outputs
  pub gates_all : length gs ≡ c.gates
  pub symbols_are : AreSymbols c symbols labels

-- the first line that offends, of a file that ends on line e
pub data LineOffence (c : Counts) (e : ℕ) (body : List (List ℕ)) : ℕ → ℕ → Type 0 where
  item : (front : List (List ℕ)) (l : List ℕ) (rest : List (List ℕ)) (vs os : List ℕ) (gs : List Definition) (cause : ℕ)
      → body ≡ front ++ l ∷ rest → AreItems c front vs os gs → ItemOffence c l vs os gs cause → LineOffence c e body (2 + length front) cause
  unended : (vs os : List ℕ) (gs : List Definition) → AreItems c body vs os gs → length body < c.inputs + c.outputs + c.gates → LineOffence c e body e 8
  symbol : (vs os : List ℕ) (gs : List Definition) (labels : List Label) (l : List ℕ) (rest : List (List ℕ)) (b : IsBody c body vs os gs labels (l ∷ rest))
      → words l ≢ (99 ∷ []) ∷ [] → ((y : Label) → ¬ AreSymbols c (b.symbols ++ l ∷ []) (labels ++ y ∷ [])) → LineOffence c e body (2 + length b.items + length b.symbols) 7
  missing : (vs os : List ℕ) (gs : List Definition) (labels : List Label) (behind : List (List ℕ)) → IsBody c body vs os gs labels behind → IsEnd behind
      → ¬ (AllNamed c.inputs (input_labels labels) × AllNamed c.outputs (output_labels labels)) → LineOffence c e body e 7

-- the variable of the literal is that of 0 and 1, or some line defines it
abbrev pub HasLine : List ℕ → ℕ → Type 0
HasLine defined x = (x / 2 ≡ 0) ⊎ IsAmong (x / 2) defined

abbrev pub BothHaveLines : List ℕ → Definition → Type 0
BothHaveLines defined d = HasLine defined d.left × HasLine defined d.right

-- all lines are as they must be, and each place has its name
pub record IsWholeBody (c : Counts) (body : List (List ℕ)) (vs os : List ℕ) (gs : List Definition) : Type 0 where
  pub labels : List Label
  pub behind : List (List ℕ)
  pub body_is : IsBody c body vs os gs labels behind
  pub end : IsEnd behind
  pub inputs_named : AllNamed c.inputs (input_labels labels)
  pub outputs_named : AllNamed c.outputs (output_labels labels)

-- the first line of an output or a gate that uses a variable which no line defines
pub data UseOffence (c : Counts) (os : List ℕ) (gs : List Definition) (defined : List ℕ) : ℕ → Type 0 where
  output : (front : List ℕ) (x : ℕ) (rest : List ℕ) → os ≡ front ++ x ∷ rest → AllByRecursion (HasLine defined) front → ¬ HasLine defined x
      → UseOffence c os gs defined (2 + c.inputs + length front)
  gate : AllByRecursion (HasLine defined) os → (front : List Definition) (d : Definition) (rest : List Definition) → gs ≡ front ++ d ∷ rest
      → AllByRecursion (BothHaveLines defined) front → ¬ BothHaveLines defined d → UseOffence c os gs defined (2 + c.inputs + c.outputs + length front)

-- the first offence of the bytes: of the header; of a line; of a use; of a gate that depends on itself
pub data IsFirstOffence (bytes : List ℕ) : ℕ → ℕ → Type 0 where
  of_head : (line cause : ℕ) → IsHeadOffence bytes line cause → IsFirstOffence bytes line cause
  of_line : (c : Counts) (line cause : ℕ) → IsHeaded bytes c → LineOffence c (line_after bytes) (other_lines (lines_of bytes)) line cause → IsFirstOffence bytes line cause
  of_use : (c : Counts) (vs os : List ℕ) (gs : List Definition) (line : ℕ) → IsHeaded bytes c → IsWholeBody c (other_lines (lines_of bytes)) vs os gs
      → UseOffence c os gs (vs ++ vars_of gs) line → IsFirstOffence bytes line 5
  of_cycle : (w : CertificateView) (g : ℕ) → IsFile bytes w → IsFirstCycle w.gates g → IsFirstOffence bytes (2 + length w.inputs + length w.outputs + g) 6
