-- Values of the inputs, with the values that they give to gates and selectors.
use Rattle.std.proofs.Common.{◌≡◌, ℕ, zero, suc, ◌+◌, ◌-◌, ◌<◌, ◌≤◌, Bool, true, false, cond, not, eqb, List, [], ◌∷◌, ◌++◌, inl, inr, arith, refl, sym, ◌∙◌, subst, length, get_or, Option, Some, None}
use Rattle.std.proofs.lemmas.List.{length-append}
use Rattle.q_logic.specs.Prelude.{Matrix, Circuit, inverter, value_of, Reads, CertificateView, Gate, GateNode, falsum, input_at, gate_at, Operand, IsThere, AreGates, node_tree, operand_tree, gate_tree, gate_trees, trees_of, tree_of_some, output_named, or_input, outcome, Assignment}
use Rattle.q_logic.specs.Sets.{at_most}
use Rattle.q_logic.specs.Truth.{clause_true}
use Rattle.q_logic.proofs.Common.{value_of-agree}
use Rattle.q_logic.proofs.CertificateTrees.{length-gate_trees}
use Rattle.q_miter.specs.Miters.{AreCircuits, greatest_name}
use Rattle.q_miter.proofs.GateValues.{tree_at, Agrees, last-tree}

-- behind the top
abbrev pub beyond : ℕ → List Circuit → Assignment → Assignment → Matrix → ℕ → Bool
beyond gates ts M A X i =
    cond (eqb i 0) false
    (cond (at_most i gates) (value_of (tree_at ts (i - 1)) A) (not (clause_true M (get_or X (i - (gates + 1)) []))))

-- M says which clauses are false, and so selected
abbrev pub extended : ℕ → ℕ → List Circuit → Assignment → Assignment → Matrix → Assignment
extended top gates ts M A X x = cond (at_most x top) (A x) (beyond gates ts M A X (x - (top + 1)))

module _ (top gates : ℕ) (ts : List Circuit) (M A : Assignment) (X : Matrix) where
  pub extended-inner : (x : ℕ) → x ≤ top → extended top gates ts M A X x ≡ A x
  extended-inner x h = let e : at_most x top ≡ true = grind arith in rw e refl

  pub extended-zero : extended top gates ts M A X (top + 1) ≡ false
  extended-zero =
      let e : at_most (top + 1) top ≡ false = grind arith in
      let f : (top + 1) - (top + 1) ≡ 0 = omega arith in rw (e, f) refl

  pub extended-gate : (i : ℕ) → i < gates → extended top gates ts M A X (top + (i + 2)) ≡ value_of (tree_at ts i) A
  extended-gate i h =
      let e : at_most (top + (i + 2)) top ≡ false = grind arith in
      let f : (top + (i + 2)) - (top + 1) ≡ i + 1 = omega arith in
      let g : eqb (i + 1) 0 ≡ false = grind arith in
      let k : at_most (i + 1) gates ≡ true = grind arith in
      let l : (i + 1) - 1 ≡ i = omega arith in rw (e, f, g, k, l) refl

  pub extended-selector : (i : ℕ) → extended top gates ts M A X (top + (gates + (i + 2))) ≡ not (clause_true M (get_or X i []))
  extended-selector i =
      let e : at_most (top + (gates + (i + 2))) top ≡ false = grind arith in
      let f : (top + (gates + (i + 2))) - (top + 1) ≡ gates + i + 1 = omega arith in
      let g : eqb (gates + i + 1) 0 ≡ false = grind arith in
      let k : at_most (gates + i + 1) gates ≡ false = grind arith in
      let l : (gates + i + 1) - (gates + 1) ≡ i = omega arith in rw (e, f, g, k, l) refl

-- Trees read inputs alone, and these are at most the top.
abbrev pub ReadUpTo : ℕ → Circuit → Type 0
ReadUpTo top t = (u : ℕ) → Reads t u → u ≤ top

pub name-greatest : (us : List ℕ) (i : ℕ) → i < length us → get_or us i 0 ≤ greatest_name us
name-greatest [] i h = absurd (omega arith)
name-greatest (u ∷ us) zero h = omega arith
name-greatest (u ∷ us) (suc i) h = let k = name-greatest us i (omega arith) in omega arith

node-reads : (top : ℕ) (inputs : List ℕ) (ts : List Circuit) (n : GateNode) → greatest_name inputs ≤ top →
    ((i : ℕ) → i < length ts → ReadUpTo top (tree_at ts i)) → IsThere (length inputs) (length ts) n → ReadUpTo top (node_tree inputs ts n)
node-reads top inputs ts falsum h f t u r = elim r [ ]
node-reads top inputs ts (input_at i) h f t u r = let k = name-greatest inputs i t in let e : get_or inputs i 0 ≡ u = r in omega arith
node-reads top inputs ts (gate_at g) h f t u r = f g t u r

pub operand-reads : (top : ℕ) (inputs : List ℕ) (ts : List Circuit) (o : Operand) → greatest_name inputs ≤ top →
    ((i : ℕ) → i < length ts → ReadUpTo top (tree_at ts i)) → IsThere (length inputs) (length ts) o.node → ReadUpTo top (operand_tree inputs ts o)
operand-reads top inputs ts o h f t = go o.negated
  where
    go : (b : Bool) → ReadUpTo top (cond b (inverter (node_tree inputs ts o.node)) (node_tree inputs ts o.node))
    go true u r = node-reads top inputs ts o.node h f t u r
    go false u r = node-reads top inputs ts o.node h f t u r

pub gates-read : (top : ℕ) (inputs : List ℕ) (gates : List Gate) (n : ℕ) (ts : List Circuit) → greatest_name inputs ≤ top → length ts ≡ n →
    AreGates (length inputs) n gates → ((i : ℕ) → i < length ts → ReadUpTo top (tree_at ts i)) →
    (i : ℕ) → i < length (gate_trees inputs ts gates) → ReadUpTo top (tree_at (gate_trees inputs ts gates) i)
gates-read top inputs [] n ts h l a f = f
gates-read top inputs (x ∷ gates) n ts h l a f =
    gates-read top inputs gates (n + 1) (ts ++ gate_tree inputs ts x ∷ []) h
    (let k : length (ts ++ gate_tree inputs ts x ∷ []) ≡ length ts + 1 = length-append ts (gate_tree inputs ts x ∷ []) in omega arith) a.2 more
  where
    there : (m : GateNode) → IsThere (length inputs) n m → IsThere (length inputs) (length ts) m
    there m t = subst (λ (k : ℕ). IsThere (length inputs) k m) (sym l) t

    new : ReadUpTo top (gate_tree inputs ts x)
    new u (inl r) = operand-reads top inputs ts x.left h f (there x.left.node a.0) u r
    new u (inr r) = operand-reads top inputs ts x.right h f (there x.right.node a.1) u r

    more : (i : ℕ) → i < length (ts ++ gate_tree inputs ts x ∷ []) → ReadUpTo top (tree_at (ts ++ gate_tree inputs ts x ∷ []) i)
    more i k = elim (last-tree ts (gate_tree inputs ts x) i k) [
      | inl r ↦ subst (ReadUpTo top) (sym r.1) (f i r.0)
      | inr r ↦ subst (ReadUpTo top) (sym r.1) new
    ]

-- The trees of a certificate under the values of inputs and what they give.
abbrev pub trees_in : CertificateView → List Circuit
trees_in c = gate_trees c.inputs [] c.gates

abbrev pub wide_over : ℕ → CertificateView → Assignment → Assignment → Matrix → Assignment
wide_over top c M A X = extended top (length c.gates) (trees_in c) M A X

count : (c : CertificateView) → length (trees_in c) ≡ length c.gates
count c =
    let k : length (gate_trees c.inputs [] c.gates) ≡ length {A = Circuit} [] + length c.gates = length-gate_trees c.inputs [] c.gates in omega arith

reads : (top : ℕ) (c : CertificateView) → AreCircuits c → greatest_name c.inputs ≤ top → (i : ℕ) → i < length (trees_in c) →
    ReadUpTo top (tree_at (trees_in c) i)
reads top c h low = gates-read top c.inputs c.gates 0 [] low refl h.gates (λ i k. absurd (omega arith))

same : (top : ℕ) (c : CertificateView) (M A : Assignment) (X : Matrix) (t : Circuit) → ReadUpTo top t →
    value_of t (wide_over top c M A X) ≡ value_of t A
same top c M A X t r =
    value_of-agree t (wide_over top c M A X) A (λ u k. extended-inner top (length c.gates) (trees_in c) M A X u (r u k))

pub extended-agrees : (top : ℕ) (c : CertificateView) (M A : Assignment) (X : Matrix) → AreCircuits c → greatest_name c.inputs ≤ top →
    Agrees top (wide_over top c M A X) (trees_in c)
extended-agrees top c M A X h low i k =
    let n : length (trees_in c) ≡ length c.gates = count c in
    extended-gate top (length c.gates) (trees_in c) M A X i (subst (λ (m : ℕ). i < m) n k) ∙
    sym (same top c M A X (tree_at (trees_in c) i) (reads top c h low i k))

pub extended-outcome : (top : ℕ) (c : CertificateView) (M A : Assignment) (X : Matrix) → AreCircuits c → greatest_name c.inputs ≤ top →
    (x : ℕ) → x ≤ top → outcome (trees_of c) (wide_over top c M A X) x ≡ outcome (trees_of c) A x
extended-outcome top c M A X h low x k = go (output_named x c.outputs) (h.outputs x)
  where
    go : (y : Option Operand) → ((o : Operand) → y ≡ Some o → IsThere (length c.inputs) (length c.gates) o.node) →
        value_of (or_input x (tree_of_some c y)) (wide_over top c M A X) ≡ value_of (or_input x (tree_of_some c y)) A
    go None f = extended-inner top (length c.gates) (trees_in c) M A X x k
    go (Some o) f =
        same top c M A X (operand_tree c.inputs (trees_in c) o)
        (operand-reads top c.inputs (trees_in c) o low (reads top c h low)
        (subst (λ (m : ℕ). IsThere (length c.inputs) m o.node) (sym (count c)) (f o refl)))
