-- Assignments that satisfy the clauses of gates give each gate the value of its tree.
use Rattle.std.proofs.Common.{◌≡◌, ℕ, zero, suc, ◌+◌, ◌<◌, Bool, true, false, cond, not, ◌&&◌, ◌||◌, List, [], ◌∷◌, ◌++◌, ◌⊎◌, inl, inr, arith, refl, sym, ap, ap₂, ◌∙◌, subst, length, get_or, Option, Some, None}
use Rattle.std.proofs.lemmas.List.{length-append}
use Rattle.q_logic.specs.Prelude.{Literal, negation, Circuit, constant, inverter, value_of, CertificateView, Gate, GateNode, falsum, input_at, gate_at, Operand, IsThere, AreGates, node_tree, operand_tree, gate_tree, gate_trees, trees_of, tree_of_some, output_named, or_input, outcome, Assignment, signed, literal_true}
use Rattle.q_logic.specs.Truth.{MatrixTrue, clause_true}
use Rattle.q_logic.proofs.TruthDecided.{clause_true-sound, clause_true-complete}
use Rattle.q_logic.proofs.CertificateTrees.{length-gate_trees}
use Rattle.q_miter.specs.Miters.{AreCircuits, gate_literal, node_literal, operand_literal, gate_clauses, literal_by, translated}
use Rattle.q_miter.proofs.Satisfied.{true-first}

abbrev pub tree_at : List Circuit → ℕ → Circuit
tree_at ts i = get_or ts i (constant false)

-- each gate so far has the value of its tree
abbrev pub Agrees : ℕ → Assignment → List Circuit → Type 0
Agrees top A ts = (i : ℕ) → i < length ts → A (top + (i + 2)) ≡ value_of (tree_at ts i) A

pub negation-true : (A : Assignment) (k : Literal) → literal_true A (negation k) ≡ not (literal_true A k)
negation-true A k = go k.negative (A k.var)
  where
    go : (n b : Bool) → signed (not n) b ≡ not (signed n b)
    go true true = refl
    go true false = refl
    go false b = refl

pub node-value : (top : ℕ) (inputs : List ℕ) (A : Assignment) (ts : List Circuit) (n : GateNode) → A (top + 1) ≡ false → Agrees top A ts →
    IsThere (length inputs) (length ts) n → literal_true A (node_literal top inputs n) ≡ value_of (node_tree inputs ts n) A
node-value top inputs A ts falsum z g h = z
node-value top inputs A ts (input_at i) z g h = refl
node-value top inputs A ts (gate_at i) z g h = g i h

pub operand-value : (top : ℕ) (inputs : List ℕ) (A : Assignment) (ts : List Circuit) (o : Operand) → A (top + 1) ≡ false → Agrees top A ts →
    IsThere (length inputs) (length ts) o.node → literal_true A (operand_literal top inputs o) ≡ value_of (operand_tree inputs ts o) A
operand-value top inputs A ts o z g h = go o.negated
  where
    plain : literal_true A (node_literal top inputs o.node) ≡ value_of (node_tree inputs ts o.node) A
    plain = node-value top inputs A ts o.node z g h

    go : (b : Bool) → literal_true A (cond b (negation (node_literal top inputs o.node)) (node_literal top inputs o.node)) ≡
        value_of (cond b (inverter (node_tree inputs ts o.node)) (node_tree inputs ts o.node)) A
    go true = negation-true A (node_literal top inputs o.node) ∙ ap not plain
    go false = plain

-- One gate more.
pub last-tree : (ts : List Circuit) (t : Circuit) (i : ℕ) → i < length (ts ++ t ∷ []) →
    ((i < length ts) × (tree_at (ts ++ t ∷ []) i ≡ tree_at ts i)) ⊎ ((i ≡ length ts) × (tree_at (ts ++ t ∷ []) i ≡ t))
last-tree [] t zero h = inr (refl, refl)
last-tree [] t (suc i) h = absurd (omega arith)
last-tree (s ∷ ts) t zero h = inl (omega arith, refl)
last-tree (s ∷ ts) t (suc i) h = elim (last-tree ts t i (omega arith)) [
  | inl r ↦ inl (let a = r.0 in omega arith, r.1)
  | inr r ↦ inr (ap suc r.0, r.1)
]

pub agrees-more : (top : ℕ) (A : Assignment) (ts : List Circuit) (t : Circuit) → Agrees top A ts →
    A (top + (length ts + 2)) ≡ value_of t A → Agrees top A (ts ++ t ∷ [])
agrees-more top A ts t g e i h = elim (last-tree ts t i h) [
  | inl r ↦ g i r.0 ∙ ap (λ (s : Circuit). value_of s A) (sym r.1)
  | inr r ↦ ap (λ (n : ℕ). A (top + (n + 2))) r.0 ∙ e ∙ ap (λ (s : Circuit). value_of s A) (sym r.1)
]

gate-parts : (g a b : Bool) → not g || (a || false) ≡ true → not g || (b || false) ≡ true → g || (not a || (not b || false)) ≡ true → g ≡ a && b
gate-parts true true true x y z = refl
gate-parts true true false x y z = absurd (cc)
gate-parts true false b x y z = absurd (cc)
gate-parts false true true x y z = absurd (cc)
gate-parts false true false x y z = refl
gate-parts false false b x y z = refl

parts-gate : (g a b : Bool) → g ≡ a && b →
    (not g || (a || false) ≡ true) × (not g || (b || false) ≡ true) × (g || (not a || (not b || false)) ≡ true)
parts-gate g true true e = rw e (refl, refl, refl)
parts-gate g true false e = rw e (refl, refl, refl)
parts-gate g false true e = rw e (refl, refl, refl)
parts-gate g false false e = rw e (refl, refl, refl)

longer-length : (ts : List Circuit) (t : Circuit) (n : ℕ) → length ts ≡ n → length (ts ++ t ∷ []) ≡ n + 1
longer-length ts t n e = let h : length (ts ++ t ∷ []) ≡ length ts + 1 = length-append ts (t ∷ []) in omega arith

-- Where the clauses are true each gate has the value of its tree.
pub clauses-agree : (top : ℕ) (inputs : List ℕ) (A : Assignment) (gates : List Gate) (n : ℕ) (ts : List Circuit) → A (top + 1) ≡ false →
    length ts ≡ n → AreGates (length inputs) n gates → Agrees top A ts → MatrixTrue A (gate_clauses top inputs n gates) →
    Agrees top A (gate_trees inputs ts gates)
clauses-agree top inputs A [] n ts z l a g t = g
clauses-agree top inputs A (x ∷ gates) n ts z l a g t =
    clauses-agree top inputs A gates (n + 1) (ts ++ gate_tree inputs ts x ∷ []) z (longer-length ts (gate_tree inputs ts x) n l) a.2
    (agrees-more top A ts (gate_tree inputs ts x) g value) (λ D m. t D (inr (inr (inr m))))
  where
    q : Literal
    q = gate_literal top n

    j : Literal
    j = operand_literal top inputs x.left

    k : Literal
    k = operand_literal top inputs x.right

    left : literal_true A j ≡ value_of (operand_tree inputs ts x.left) A
    left = operand-value top inputs A ts x.left z g (subst (λ (m : ℕ). IsThere (length inputs) m x.left.node) (sym l) a.0)

    right : literal_true A k ≡ value_of (operand_tree inputs ts x.right) A
    right = operand-value top inputs A ts x.right z g (subst (λ (m : ℕ). IsThere (length inputs) m x.right.node) (sym l) a.1)

    one : clause_true A (negation q ∷ j ∷ []) ≡ true
    one = clause_true-complete A (negation q ∷ j ∷ []) (t (negation q ∷ j ∷ []) (inl refl))

    two : clause_true A (negation q ∷ k ∷ []) ≡ true
    two = clause_true-complete A (negation q ∷ k ∷ []) (t (negation q ∷ k ∷ []) (inr (inl refl)))

    three : clause_true A (q ∷ negation j ∷ negation k ∷ []) ≡ true
    three = clause_true-complete A (q ∷ negation j ∷ negation k ∷ []) (t (q ∷ negation j ∷ negation k ∷ []) (inr (inr (inl refl))))

    nq : literal_true A (negation q) ≡ not (literal_true A q)
    nq = negation-true A q

    nj : literal_true A (negation j) ≡ not (literal_true A j)
    nj = negation-true A j

    nk : literal_true A (negation k) ≡ not (literal_true A k)
    nk = negation-true A k

    both : literal_true A q ≡ literal_true A j && literal_true A k
    both = gate-parts (literal_true A q) (literal_true A j) (literal_true A k)
        (subst (λ (b : Bool). b || (literal_true A j || false) ≡ true) nq one)
        (subst (λ (b : Bool). b || (literal_true A k || false) ≡ true) nq two)
        (subst (λ (b : Bool). literal_true A q || (b || (not (literal_true A k) || false)) ≡ true) nj
        (subst (λ (b : Bool). literal_true A q || (literal_true A (negation j) || (b || false)) ≡ true) nk three))

    value : A (top + (length ts + 2)) ≡ value_of (gate_tree inputs ts x) A
    value = ap (λ (m : ℕ). A (top + (m + 2))) l ∙ both ∙ ap₂ ◌&&◌ left right

-- Where each gate has the value of its tree the clauses are true.
pub earlier-tree : (inputs : List ℕ) (gates : List Gate) (ts : List Circuit) (i : ℕ) → i < length ts →
    (tree_at (gate_trees inputs ts gates) i ≡ tree_at ts i)
earlier-tree inputs [] ts i h = refl
earlier-tree inputs (x ∷ gates) ts i h =
    let l : length (ts ++ gate_tree inputs ts x ∷ []) ≡ length ts + 1 = length-append ts (gate_tree inputs ts x ∷ []) in
    let k : i < length (ts ++ gate_tree inputs ts x ∷ []) = omega arith in
    earlier-tree inputs gates (ts ++ gate_tree inputs ts x ∷ []) i k ∙ elim (last-tree ts (gate_tree inputs ts x) i k) [
      | inl r ↦ r.1
      | inr r ↦ absurd (let e = r.0 in omega arith)
    ]

new-tree : (ts : List Circuit) (t : Circuit) → tree_at (ts ++ t ∷ []) (length ts) ≡ t
new-tree [] t = refl
new-tree (s ∷ ts) t = new-tree ts t

pub agree-clauses : (top : ℕ) (inputs : List ℕ) (A : Assignment) (gates : List Gate) (n : ℕ) (ts : List Circuit) → A (top + 1) ≡ false →
    length ts ≡ n → AreGates (length inputs) n gates → Agrees top A (gate_trees inputs ts gates) →
    MatrixTrue A (gate_clauses top inputs n gates)
agree-clauses top inputs A [] n ts z l a g = λ D m. elim m [ ]
agree-clauses top inputs A (x ∷ gates) n ts z l a g =
    true-first A (negation (gate_literal top n) ∷ operand_literal top inputs x.left ∷ [])
    ((negation (gate_literal top n) ∷ operand_literal top inputs x.right ∷ []) ∷
    (gate_literal top n ∷ negation (operand_literal top inputs x.left) ∷ negation (operand_literal top inputs x.right) ∷ []) ∷
    gate_clauses top inputs (n + 1) gates)
    (clause_true-sound A (negation (gate_literal top n) ∷ operand_literal top inputs x.left ∷ []) one)
    (true-first A (negation (gate_literal top n) ∷ operand_literal top inputs x.right ∷ [])
    ((gate_literal top n ∷ negation (operand_literal top inputs x.left) ∷ negation (operand_literal top inputs x.right) ∷ []) ∷
    gate_clauses top inputs (n + 1) gates)
    (clause_true-sound A (negation (gate_literal top n) ∷ operand_literal top inputs x.right ∷ []) two)
    (true-first A (gate_literal top n ∷ negation (operand_literal top inputs x.left) ∷ negation (operand_literal top inputs x.right) ∷ [])
    (gate_clauses top inputs (n + 1) gates)
    (clause_true-sound A (gate_literal top n ∷ negation (operand_literal top inputs x.left) ∷ negation (operand_literal top inputs x.right) ∷ []) three)
    (agree-clauses top inputs A gates (n + 1) (ts ++ gate_tree inputs ts x ∷ []) z (longer-length ts (gate_tree inputs ts x) n l) a.2 g)))
  where
    within : (i : ℕ) → i < length ts + 1 → i < length (gate_trees inputs (ts ++ gate_tree inputs ts x ∷ []) gates)
    within i h =
        let a : length (gate_trees inputs (ts ++ gate_tree inputs ts x ∷ []) gates) ≡ length (ts ++ gate_tree inputs ts x ∷ []) + length gates =
        length-gate_trees inputs (ts ++ gate_tree inputs ts x ∷ []) gates in
        let b : length (ts ++ gate_tree inputs ts x ∷ []) ≡ length ts + 1 = length-append ts (gate_tree inputs ts x ∷ []) in omega arith

    one_longer : length (ts ++ gate_tree inputs ts x ∷ []) ≡ length ts + 1
    one_longer = length-append ts (gate_tree inputs ts x ∷ [])

    before : Agrees top A ts
    before i h =
        g i (within i (omega arith)) ∙ ap (λ (s : Circuit). value_of s A) (earlier-tree inputs (x ∷ gates) ts i h)

    here : A (top + (length ts + 2)) ≡ value_of (gate_tree inputs ts x) A
    here =
        let k : length ts < length (ts ++ gate_tree inputs ts x ∷ []) = omega (arith, one_longer) in
        g (length ts) (within (length ts) (omega arith)) ∙
        ap (λ (s : Circuit). value_of s A)
        (earlier-tree inputs gates (ts ++ gate_tree inputs ts x ∷ []) (length ts) k ∙ new-tree ts (gate_tree inputs ts x))

    left : literal_true A (operand_literal top inputs x.left) ≡ value_of (operand_tree inputs ts x.left) A
    left = operand-value top inputs A ts x.left z before (subst (λ (m : ℕ). IsThere (length inputs) m x.left.node) (sym l) a.0)

    right : literal_true A (operand_literal top inputs x.right) ≡ value_of (operand_tree inputs ts x.right) A
    right = operand-value top inputs A ts x.right z before (subst (λ (m : ℕ). IsThere (length inputs) m x.right.node) (sym l) a.1)

    parts : (not (literal_true A (gate_literal top n)) || (literal_true A (operand_literal top inputs x.left) || false) ≡ true) × (not (literal_true A (gate_literal top n)) || (literal_true A (operand_literal top inputs x.right) || false) ≡ true) ×
        (literal_true A (gate_literal top n) || (not (literal_true A (operand_literal top inputs x.left)) || (not (literal_true A (operand_literal top inputs x.right)) || false)) ≡ true)
    parts = parts-gate (literal_true A (gate_literal top n)) (literal_true A (operand_literal top inputs x.left)) (literal_true A (operand_literal top inputs x.right))
        (ap (λ (m : ℕ). A (top + (m + 2))) (sym l) ∙ here ∙ sym (ap₂ ◌&&◌ left right))

    one : clause_true A (negation (gate_literal top n) ∷ (operand_literal top inputs x.left) ∷ []) ≡ true
    one = subst (λ (b : Bool). b || (literal_true A (operand_literal top inputs x.left) || false) ≡ true) (sym (negation-true A (gate_literal top n))) parts.0

    two : clause_true A (negation (gate_literal top n) ∷ (operand_literal top inputs x.right) ∷ []) ≡ true
    two = subst (λ (b : Bool). b || (literal_true A (operand_literal top inputs x.right) || false) ≡ true) (sym (negation-true A (gate_literal top n))) parts.1

    three : clause_true A ((gate_literal top n) ∷ negation (operand_literal top inputs x.left) ∷ negation (operand_literal top inputs x.right) ∷ []) ≡ true
    three =
        subst (λ (b : Bool). literal_true A (gate_literal top n) || (literal_true A (negation (operand_literal top inputs x.left)) || (b || false)) ≡ true) (sym (negation-true A (operand_literal top inputs x.right)))
        (subst (λ (b : Bool). literal_true A (gate_literal top n) || (b || (not (literal_true A (operand_literal top inputs x.right)) || false)) ≡ true) (sym (negation-true A (operand_literal top inputs x.left))) parts.2)

-- A translated literal has the value that the circuits give.
pub translated-value : (top : ℕ) (c : CertificateView) (A : Assignment) (k : Literal) → AreCircuits c → A (top + 1) ≡ false →
    Agrees top A (gate_trees c.inputs [] c.gates) →
    literal_true A (translated top c k) ≡ literal_true (outcome (trees_of c) A) k
translated-value top c A k h z g = go (output_named k.var c.outputs) (h.outputs k.var)
  where
    go : (x : Option Operand) → ((o : Operand) → x ≡ Some o → IsThere (length c.inputs) (length c.gates) o.node) →
        literal_true A (literal_by top c.inputs k x) ≡ signed k.negative (value_of (or_input k.var (tree_of_some c x)) A)
    go None f = refl
    go (Some o) f = sign k.negative
      where
        l : length (gate_trees c.inputs [] c.gates) ≡ length c.gates
        l = let k : length (gate_trees c.inputs [] c.gates) ≡ length {A = Circuit} [] + length c.gates = length-gate_trees c.inputs [] c.gates in omega arith

        plain : literal_true A (operand_literal top c.inputs o) ≡ value_of (operand_tree c.inputs (gate_trees c.inputs [] c.gates) o) A
        plain = operand-value top c.inputs A (gate_trees c.inputs [] c.gates) o z g (subst (λ (m : ℕ). IsThere (length c.inputs) m o.node) (sym l) (f o refl))

        sign : (n : Bool) → literal_true A (cond n (negation (operand_literal top c.inputs o)) (operand_literal top c.inputs o)) ≡
            signed n (value_of (operand_tree c.inputs (gate_trees c.inputs [] c.gates) o) A)
        sign true = negation-true A (operand_literal top c.inputs o) ∙ ap not plain
        sign false = plain
