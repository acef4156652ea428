-- Circuits of merged variables: of two values the pivot chooses. (Such circuits are the merge maps of Beyersdorff, Blinkhorn,
-- Mahajan, "Building Strategies into QBF Proofs", Journal of Automated Reasoning 65, 2021.)
use Rattle.std.specs.Prelude.{◌≡◌, ℕ, ◌<◌, ◌+◌, Bool, true, false, List, [], ◌∷◌, ◌++◌, length, slice_get, Option, Some, None}
use Rattle.q_logic.specs.Prelude.{Literal, Circuit, constant, input, inverter, conjunction, Strategy}
use Rattle.q_aig.specs.Prelude.{Net, IsLiteral, tree_at, Serves}
use Rattle.q_certificate.specs.Prelude.{IsAt, IsGrown}
use Rattle.q_long.specs.Valued.{Value, value_for, picked}
use Rattle.q_long.specs.Decided.{either}
use Rattle.q_extract.specs.declared.said.Said.{Said}
use Rattle.q_extract.specs.declared.said.Said.TheVariants.{Constant, Merged}
use Rattle.q_extract.specs.declared.said.Merge.{Merge}

-- the circuit, if it is there
abbrev pub circuit_in : Option Circuit → Circuit
circuit_in None = constant false
circuit_in (Some t) = t

-- what is said, where the merges have these circuits
abbrev pub said_circuit : List Circuit → Said → Circuit
said_circuit cs (Constant b) = constant b
said_circuit cs (Merged i) = circuit_in (slice_get cs i)

abbrev pub merge_circuit : List Circuit → Merge → Circuit
merge_circuit cs m = picked m.pivot (said_circuit cs m.first) (said_circuit cs m.second)

-- the circuits of merges behind those of others, each over those before it
abbrev pub circuits_after : List Circuit → List Merge → List Circuit
circuits_after cs [] = cs
circuits_after cs (m ∷ ms) = circuits_after (cs ++ merge_circuit cs m ∷ []) ms

abbrev pub merge_circuits : List Merge → List Circuit
merge_circuits ms = circuits_after [] ms

-- a constant, or one of the first n merges
abbrev pub IsSaidBelow : ℕ → Said → Type 0
IsSaidBelow n (Constant b) = Unit {0}
IsSaidBelow n (Merged i) = i < n

-- each merge is of what stands before it
abbrev pub AreMerges : List Merge → Type 0
AreMerges ms = (i : ℕ) → (m : Merge) → slice_get ms i ≡ Some m → IsSaidBelow i m.first × IsSaidBelow i m.second

-- a literal as a value: that of a merge, if there is one, and else that by which it is true
abbrev pub value_by : List Circuit → Option ℕ → Literal → Value
value_by cs None k = value_for k
value_by cs (Some i) k = record { var = k.var; circuit = circuit_in (slice_get cs i) }

-- the same, where f has the merges of variables
abbrev pub value_at : List Circuit → (ℕ → Option ℕ) → Literal → Value
value_at cs f k = value_by cs (f k.var) k

-- the first where h is true, and the second where it is false
pub record IsChosen (old new : Net) (h s t l : ℕ) : Type 0 where
  pub grown : IsGrown old new 3
  pub there : IsLiteral new l
  pub serves : Serves (tree_at new l) (either (tree_at old h) (tree_at old s) (tree_at old t))

-- literals of the graph
abbrev pub AreNodeLiterals : Net → List ℕ → Type 0
AreNodeLiterals a nodes = (i l : ℕ) → slice_get nodes i ≡ Some l → IsLiteral a l

-- they serve for these circuits
abbrev pub NodesServe : Net → List Circuit → List ℕ → Type 0
NodesServe a cs nodes = (i l : ℕ) → slice_get nodes i ≡ Some l → Serves (tree_at a l) (circuit_in (slice_get cs i))

-- literals of the graph for these circuits
pub record AreNodes (a : Net) (cs : List Circuit) (nodes : List ℕ) : Type 0 where
  pub size : length nodes ≡ length cs
  pub literals : AreNodeLiterals a nodes
  pub serve : NodesServe a cs nodes

-- a literal for what is said, where the nodes are those of merges
pub record IsNodeOf (nodes : List ℕ) (s : Said) (l : ℕ) : Type 0 where
  pub there : (a : Net) → AreNodeLiterals a nodes → IsLiteral a l
  pub serves : (a : Net) → (cs : List Circuit) → NodesServe a cs nodes → Serves (tree_at a l) (said_circuit cs s)

-- each pivot is in U
abbrev pub HavePivotsIn : (ℕ → Bool) → List Merge → Type 0
HavePivotsIn U ms = (i : ℕ) → (m : Merge) → slice_get ms i ≡ Some m → U m.pivot.var ≡ true

-- the strategy without circuits
abbrev pub no_circuits : Strategy
no_circuits x = None

-- a literal for a merge
pub record IsMergeNode (old new : Net) (ins tb : List (Option ℕ)) (nodes : List ℕ) (m : Merge) (l : ℕ) : Type 0 where
  pub grown : IsGrown old new 3
  pub there : IsLiteral new l
  pub serves : (U : ℕ → Bool) → (cs : List Circuit) → IsAt old ins tb U no_circuits → U m.pivot.var ≡ true → NodesServe old cs nodes →
      Serves (tree_at new l) (merge_circuit cs m)

-- literals for all merges, for three gates each at most
pub record IsMerging (old new : Net) (ins tb : List (Option ℕ)) (ms : List Merge) (nodes : List ℕ) : Type 0 where
  pub grown : IsGrown old new (length ms + length ms + length ms)
  pub size : length nodes ≡ length ms
  pub literals : AreNodeLiterals new nodes
  pub serve : (U : ℕ → Bool) → IsAt old ins tb U no_circuits → HavePivotsIn U ms → NodesServe new (merge_circuits ms) nodes

-- what a value costs beside its own gate: nothing, if it is a constant
abbrev pub extra : Circuit → ℕ
extra (constant b) = 0
extra (input u) = 3
extra (inverter t) = 3
extra (conjunction s t) = 3

abbrev pub weight : Value → ℕ
weight v = 1 + extra v.circuit

abbrev pub weights : List Value → ℕ
weights [] = 0
weights (v ∷ T) = weight v + weights T
