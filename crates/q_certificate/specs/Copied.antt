-- The gates that outputs need, copied one by one.
use Rattle.std.specs.Prelude.{◌≡◌, ◌<◌, ◌≤◌, ℕ, zero, suc, ◌+◌, Bool, true, false, cond, List, [], length, slice_index_or, slice_get, Option, Some, None, map}
use Rattle.q_logic.specs.Prelude.{Circuit, Reads, GateNode, falsum, input_at, gate_at, Operand, Gate, gate_trees, trees_of, Strategy}
use Rattle.q_aig.specs.declared.output.Output.{Output}
use Rattle.q_aig.specs.Prelude.{Net, IsLiteral, tree_at, operand_of, turned, no_output, output_of, Serves}
use Rattle.q_certificate.specs.Standing.{look_at, AreLiterals, InputsAt, IsAt}
use Rattle.q_certificate.specs.Growing.{IsGrown}

-- the node of an output, or what it is made of
pub data IsNeeded (gates : List Gate) (os : List Output) : GateNode → Type 0 where
  root : (i : ℕ) → i < length os → IsNeeded gates os (operand_of (slice_index_or os i no_output).lit).node
  left : (g : ℕ) → (x : Gate) → slice_get gates g ≡ Some x → IsNeeded gates os (gate_at g) → IsNeeded gates os x.left.node
  right : (g : ℕ) → (x : Gate) → slice_get gates g ≡ Some x → IsNeeded gates os (gate_at g) → IsNeeded gates os x.right.node

abbrev pub IsMarked : List Bool → GateNode → Type 0
IsMarked marks falsum = Unit {0}
IsMarked marks (input_at i) = Unit {0}
IsMarked marks (gate_at g) = slice_index_or marks g false ≡ true

-- the first outputs are marked, the gates from a place on have marked operands, and nothing is marked that is not needed
pub record AreMarking (gates : List Gate) (os : List Output) (marks : List Bool) (upto from : ℕ) : Type 0 where
  pub outputs : (i : ℕ) → i < upto → IsMarked marks (operand_of (slice_index_or os i no_output).lit).node
  pub closed : (g : ℕ) → (x : Gate) → from ≤ g → slice_index_or marks g false ≡ true → slice_get gates g ≡ Some x → IsMarked marks x.left.node × IsMarked marks x.right.node
  pub needed : (g : ℕ) → slice_index_or marks g false ≡ true → IsNeeded gates os (gate_at g)

abbrev pub AreMarked : List Gate → List Output → List Bool → Type 0
AreMarked gates os marks = AreMarking gates os marks (length os) 0

abbrev pub or_zero : Option ℕ → ℕ
or_zero None = 0
or_zero (Some l) = l

-- the literal of a node in the copy
abbrev pub copied_plain : List ℕ → List (Option ℕ) → List ℕ → GateNode → ℕ
copied_plain names ins row falsum = 0
copied_plain names ins row (input_at i) = or_zero (look_at ins (slice_index_or names i 0))
copied_plain names ins row (gate_at g) = slice_index_or row g 0

abbrev pub copied_operand : List ℕ → List (Option ℕ) → List ℕ → Operand → Operand
copied_operand names ins row o =
    cond o.negated
    (turned (operand_of (copied_plain names ins row o.node)))
    (operand_of (copied_plain names ins row o.node))

-- the tree of a gate
abbrev pub tree_of_gate : Net → ℕ → Circuit
tree_of_gate a g = slice_index_or (gate_trees a.inputs [] a.gates) g (Circuit.constant false)

abbrev pub ReadsOnly : (ℕ → Bool) → Circuit → Type 0
ReadsOnly U t = (u : ℕ) → Reads t u → U u ≡ true

-- how many of the first places are marked
abbrev pub marked_upto : List Bool → ℕ → ℕ
marked_upto marks zero = 0
marked_upto marks (suc n) = cond (slice_index_or marks n false) (marked_upto marks n + 1) (marked_upto marks n)

-- the marked ones among the first gates have their copies in the row, and only for these there are new gates
pub record AreCopied (old : Net) (marks : List Bool) (ins : List (Option ℕ)) (base now : Net) (row : List ℕ) (n : ℕ) : Type 0 where
  pub room : length row ≡ n
  pub grown : IsGrown base now (marked_upto marks n)
  pub there : (g : ℕ) → IsLiteral now (slice_index_or row g 0)
  pub serves : (U : ℕ → Bool) → InputsAt base ins U → (g : ℕ) → g < n → slice_index_or marks g false ≡ true → ReadsOnly U (tree_of_gate old g) → Serves (tree_at now (slice_index_or row g 0)) (tree_of_gate old g)

-- the circuits of the outputs
abbrev pub strategy_of : Net → List Output → Strategy
strategy_of a os = trees_of (record { inputs = a.inputs; gates = a.gates; outputs = map output_of os })

abbrev pub OutputsReadOnly : (ℕ → Bool) → Net → List Output → Type 0
OutputsReadOnly U a os = (i : ℕ) → i < length os → ReadsOnly U (tree_at a (slice_index_or os i no_output).lit)

-- the copy of one gate, after copies of those before it
pub record IsCopy (old : Net) (ins : List (Option ℕ)) (before after : Net) (row : List ℕ) (gate l : ℕ) : Type 0 where
  pub grown : IsGrown before after 1
  pub there : IsLiteral after l
  pub serves : (U : ℕ → Bool) → (marks : List Bool) → InputsAt before ins U →
      ((g : ℕ) → g < gate → slice_index_or marks g false ≡ true → ReadsOnly U (tree_of_gate old g) → Serves (tree_at before (slice_index_or row g 0)) (tree_of_gate old g)) →
      ((x : Gate) → slice_get old.gates gate ≡ Some x → IsMarked marks x.left.node × IsMarked marks x.right.node) →
      ReadsOnly U (tree_of_gate old gate) → Serves (tree_at after l) (tree_of_gate old gate)

-- the first outputs are still to come
pub record ArePlaced (old : Net) (ins : List (Option ℕ)) (row : List ℕ) (os done : List Output) (tb : List (Option ℕ)) : Type 0 where
  pub literals : (n : Net) → AreLiterals n ins → ((g : ℕ) → IsLiteral n (slice_index_or row g 0)) → AreLiterals n tb
  pub at : (base n : Net) → (marks : List Bool) → (U : ℕ → Bool) → AreMarked old.gates os marks → AreCopied old marks ins base n row (length old.gates) → AreLiterals base ins → InputsAt base ins U → OutputsReadOnly U old os → IsAt n ins tb U (strategy_of old done)
