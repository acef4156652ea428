-- Miters: clauses that can be satisfied exactly where circuits fail to be Skolem or Herbrand functions. (Brand, "Verification of
-- large synthesized designs", ICCAD 1993. Gates as clauses: Tseitin, "On the complexity of derivation in propositional calculus",
-- 1968.)
use Rattle.std.specs.Prelude.{◌≡◌, ℕ, ◌+◌, ◌≤◌, Bool, true, false, cond, ◌||◌, List, [], ◌∷◌, ◌++◌, length, slice_index_or, Option, Some, None}
use Rattle.q_logic.specs.Prelude.{Literal, negation, positive, Clause, Matrix, Prefix, IsIn, PrenexFormula, Closed, is_exists, greatest, larger_of, clause_of, CertificateView, Gate, GateNode, falsum, input_at, gate_at, Operand, IsThere, AreGates, output_named, is_tautology}
use Rattle.q_logic.specs.Sets.{all_in}

-- gates read inputs and earlier gates, and outputs what there is: so is each certificate that is read from a file
pub record AreCircuits (c : CertificateView) : Type 0 where
  pub gates : AreGates (length c.inputs) 0 c.gates
  pub outputs : (x : ℕ) (o : Operand) → output_named x c.outputs ≡ Some o → IsThere (length c.inputs) (length c.gates) o.node

-- the greatest name of an input
abbrev pub greatest_name : List ℕ → ℕ
greatest_name [] = 0
greatest_name (u ∷ us) = larger_of u (greatest_name us)

-- variables of IN and inputs keep their numbers, which are at most the top; behind it come the constant 0, the gates and the selectors
abbrev pub top_of : PrenexFormula → CertificateView → ℕ
top_of F c = larger_of (greatest F.prefix) (greatest_name c.inputs)

abbrev pub zero_literal : ℕ → Literal
zero_literal top = positive (top + 1)

abbrev pub gate_literal : ℕ → ℕ → Literal
gate_literal top g = positive (top + (g + 2))

abbrev pub selector : ℕ → ℕ → ℕ → Literal
selector top gates i = positive (top + (gates + (i + 2)))

abbrev pub node_literal : ℕ → List ℕ → GateNode → Literal
node_literal top inputs falsum = zero_literal top
node_literal top inputs (input_at i) = positive (slice_index_or inputs i 0)
node_literal top inputs (gate_at g) = gate_literal top g

abbrev pub operand_literal : ℕ → List ℕ → Operand → Literal
operand_literal top inputs o = cond o.negated (negation (node_literal top inputs o.node)) (node_literal top inputs o.node)

-- three clauses for each gate; n gates stand before
abbrev pub gate_clauses : ℕ → List ℕ → ℕ → List Gate → Matrix
gate_clauses top inputs n [] = []
gate_clauses top inputs n (g ∷ gates) =
    (negation (gate_literal top n) ∷ operand_literal top inputs g.left ∷ []) ∷
    (negation (gate_literal top n) ∷ operand_literal top inputs g.right ∷ []) ∷
    (gate_literal top n ∷ negation (operand_literal top inputs g.left) ∷ negation (operand_literal top inputs g.right) ∷ []) ∷
    gate_clauses top inputs (n + 1) gates

-- the constant and the gates
abbrev pub gate_definitions : ℕ → CertificateView → Matrix
gate_definitions top c = (negation (zero_literal top) ∷ []) ∷ gate_clauses top c.inputs 0 c.gates

-- a literal of a variable with a circuit, by the circuit's operand
abbrev pub literal_by : ℕ → List ℕ → Literal → Option Operand → Literal
literal_by top inputs k None = k
literal_by top inputs k (Some o) = cond k.negative (negation (operand_literal top inputs o)) (operand_literal top inputs o)

abbrev pub translated : ℕ → CertificateView → Literal → Literal
translated top c k = literal_by top c.inputs k (output_named k.var c.outputs)

abbrev pub translated_clause : ℕ → CertificateView → Clause → Clause
translated_clause top c [] = []
translated_clause top c (k ∷ D) = translated top c k ∷ translated_clause top c D

abbrev pub translated_matrix : ℕ → CertificateView → Matrix → Matrix
translated_matrix top c [] = []
translated_matrix top c (D ∷ X) = translated_clause top c D ∷ translated_matrix top c X

-- the selector of a clause says that each of its literals is false
abbrev pub denials : ℕ → CertificateView → Literal → Clause → Matrix
denials top c q [] = []
denials top c q (k ∷ D) = (negation q ∷ negation (translated top c k) ∷ []) ∷ denials top c q D

-- n clauses stand before
abbrev pub selections : ℕ → CertificateView → ℕ → Matrix → Matrix
selections top c n [] = []
selections top c n (D ∷ X) = denials top c (selector top (length c.gates) n) D ++ selections top c (n + 1) X

abbrev pub selectors : ℕ → CertificateView → ℕ → Matrix → Clause
selectors top c n [] = []
selectors top c n (D ∷ X) = selector top (length c.gates) n ∷ selectors top c (n + 1) X

-- each clause in literal order, as a file holds it
abbrev pub in_order : Matrix → Matrix
in_order [] = []
in_order (D ∷ X) = clause_of D ∷ in_order X

-- some clause of IN is false under the circuits: these clauses are satisfied where they are not Skolem functions
abbrev pub skolem_miter : PrenexFormula → CertificateView → Matrix
skolem_miter F c =
    in_order (gate_definitions (top_of F c) c ++ selectors (top_of F c) c 0 F.matrix ∷ selections (top_of F c) c 0 F.matrix)

-- all clauses of IN are true under the circuits: these clauses are satisfied where they are not Herbrand functions
abbrev pub herbrand_miter : PrenexFormula → CertificateView → Matrix
herbrand_miter F c = in_order (gate_definitions (top_of F c) c ++ translated_matrix (top_of F c) c F.matrix)

-- each variable of the prefix is existential
abbrev pub AllExist : Prefix → Type 0
AllExist [] = Unit {0}
AllExist (b ∷ P) = (is_exists b.quant ≡ true) × AllExist P

-- a file of these clauses, with existentials alone: no set, or any sets of existentials
pub record IsCnf (X : Matrix) (G : PrenexFormula) : Type 0 where
  pub existential : AllExist G.prefix
  pub closed : Closed G.prefix G.matrix
  pub matrix : G.matrix ≡ X

-- no literal has a greater variable
abbrev pub VarsUpTo : ℕ → Matrix → Type 0
VarsUpTo n X = (D : Clause) → IsIn D X → (k : Literal) → IsIn k D → k.var ≤ n

-- some clause of X is a part of D
abbrev pub has_part : Matrix → Clause → Bool
has_part [] D = false
has_part (R ∷ X) D = all_in R D || has_part X D

-- a clause of IN that is true under the circuits, as is seen at once: translated it holds a literal and its negation, or a clause of a gate
abbrev pub is_needless : ℕ → CertificateView → Clause → Bool
is_needless top c D =
    is_tautology (translated_clause top c D) || has_part (gate_definitions top c) (translated_clause top c D)

-- the other clauses
abbrev pub needed : ℕ → CertificateView → Matrix → Matrix
needed top c [] = []
needed top c (D ∷ X) = cond (is_needless top c D) (needed top c X) (D ∷ needed top c X)

-- the same with selectors of these alone
abbrev pub lean_miter : PrenexFormula → CertificateView → Matrix
lean_miter F c =
    in_order (gate_definitions (top_of F c) c ++ selectors (top_of F c) c 0 (needed (top_of F c) c F.matrix) ∷
    selections (top_of F c) c 0 (needed (top_of F c) c F.matrix))
