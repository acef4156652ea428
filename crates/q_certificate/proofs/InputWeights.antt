-- The greatest weight of the inputs that circuits read, gate by gate.
use Rattle.std.proofs.Common.{◌≡◌, ◌⊎◌, ℕ, ◌+◌, ◌<◌, ◌≤◌, Bool, true, false, cond, max, List, [], ◌∷◌, ◌++◌, length, get_or, slice_get, inl, inr, arith, refl, sym, ◌∙◌, subst, Some}
use Rattle.std.proofs.lemmas.Bool.{cases_lt}
use Rattle.std.proofs.lemmas.List.{length_push, get_or_append_left, get_or_push}
use Rattle.q_logic.specs.Prelude.{Circuit, Reads, conjunction, inverter, GateNode, falsum, input_at, gate_at, node_tree, gate_trees, CertificateView, trees_of}
use Rattle.q_aig.specs.Prelude.{Net, operand_of, gate_of, tree_at, AreDistinct, IsNet, net_of}
use Rattle.q_certificate.specs.Copied.{tree_of_gate}
use Rattle.q_certificate.specs.Peaks.{IsPeak, ArePeaks, IsTop}
use Rattle.q_certificate.specs.Refusals.{ReadsInput}
use Rattle.q_certificate.specs.Testing.{name_at}
use Rattle.q_certificate.proofs.InputReads.{to-input, from-input}
use Rattle.q_certificate.proofs.CircuitCopies.{gate-is}

-- a circuit and its negation read the same
peak-signed : (a : Net) (ws : List ℕ) (b : Bool) (t : Circuit) (m : ℕ) → IsPeak a ws t m → IsPeak a ws (cond b (inverter t) t) m
peak-signed a ws true t m p = record { bound = p.bound; met = p.met }
peak-signed a ws false t m p = p

peak-constant : (a : Net) (ws : List ℕ) → IsPeak a ws (Circuit.constant false) 0
peak-constant a ws = record { bound = λ i lt r. absurd r; met = inl refl }

peak-input : (a : Net) (ws : List ℕ) (j : ℕ) → AreDistinct a.inputs → j < length a.inputs → IsPeak a ws (Circuit.input (get_or a.inputs j 0)) (get_or ws j 0)
peak-input a ws j d lt = record {
  bound = λ i li r. let e : j ≡ i = d j i lt li r in subst (λ (k : ℕ). get_or ws i 0 ≤ get_or ws k 0) (sym e) (omega arith);
  met = inr (j, lt, refl, refl);
}

pub peak-conjunction : (a : Net) (ws : List ℕ) (s t : Circuit) (m n : ℕ) → IsPeak a ws s m → IsPeak a ws t n → IsPeak a ws (conjunction s t) (max m n)
peak-conjunction a ws s t m n p q = record {
  bound = λ i lt r. elim r [ inl x ↦ (let b : get_or ws i 0 ≤ m = p.bound i lt x in omega arith) | inr x ↦ (let b : get_or ws i 0 ≤ n = q.bound i lt x in omega arith) ];
  met = go (cases_lt m n);
}
  where
    left : max m n ≡ m → (m ≡ 0) ⊎ ((i : ℕ) × (i < length a.inputs) × Reads s (get_or a.inputs i 0) × (get_or ws i 0 ≡ m)) → (max m n ≡ 0) ⊎ ((i : ℕ) × (i < length a.inputs) × Reads (conjunction s t) (get_or a.inputs i 0) × (get_or ws i 0 ≡ max m n))
    left e (inl z) = inl (e ∙ z)
    left e (inr x) = inr (x.0, x.1, inl x.2, x.3 ∙ sym e)

    right : max m n ≡ n → (n ≡ 0) ⊎ ((i : ℕ) × (i < length a.inputs) × Reads t (get_or a.inputs i 0) × (get_or ws i 0 ≡ n)) → (max m n ≡ 0) ⊎ ((i : ℕ) × (i < length a.inputs) × Reads (conjunction s t) (get_or a.inputs i 0) × (get_or ws i 0 ≡ max m n))
    right e (inl z) = inl (e ∙ z)
    right e (inr x) = inr (x.0, x.1, inr x.2, x.3 ∙ sym e)

    go : (m < n) ⊎ (n ≤ m) → (max m n ≡ 0) ⊎ ((i : ℕ) × (i < length a.inputs) × Reads (conjunction s t) (get_or a.inputs i 0) × (get_or ws i 0 ≡ max m n))
    go (inl lt) = right (omega arith) q.met
    go (inr le) = left (omega arith) p.met

-- a literal, by what its node is
pub peak-none : (a : Net) (ws : List ℕ) (l : ℕ) → falsum ≡ (operand_of l).node → IsPeak a ws (tree_at a l) 0
peak-none a ws l e = peak-signed a ws (operand_of l).negated (node_tree a.inputs (gate_trees a.inputs [] a.gates) (operand_of l).node) 0
    (subst (λ (x : GateNode). IsPeak a ws (node_tree a.inputs (gate_trees a.inputs [] a.gates) x) 0) e (peak-constant a ws))

pub peak-at-input : (a : Net) (ws : List ℕ) (l j m : ℕ) → IsNet a → input_at j ≡ (operand_of l).node → j < length a.inputs → m ≡ get_or ws j 0 → IsPeak a ws (tree_at a l) m
peak-at-input a ws l j m n e lt q = subst (IsPeak a ws (tree_at a l)) (sym q)
    (peak-signed a ws (operand_of l).negated (node_tree a.inputs (gate_trees a.inputs [] a.gates) (operand_of l).node) (get_or ws j 0)
    (subst (λ (x : GateNode). IsPeak a ws (node_tree a.inputs (gate_trees a.inputs [] a.gates) x) (get_or ws j 0)) e (peak-input a ws j n.distinct lt)))

pub peak-at-gate : (a : Net) (ws row : List ℕ) (l g m : ℕ) → ArePeaks a ws row → gate_at g ≡ (operand_of l).node → g < length row → m ≡ get_or row g 0 → IsPeak a ws (tree_at a l) m
peak-at-gate a ws row l g m p e lt q = subst (IsPeak a ws (tree_at a l)) (sym q)
    (peak-signed a ws (operand_of l).negated (node_tree a.inputs (gate_trees a.inputs [] a.gates) (operand_of l).node) (get_or row g 0)
    (subst (λ (x : GateNode). IsPeak a ws (node_tree a.inputs (gate_trees a.inputs [] a.gates) x) (get_or row g 0)) e (p g lt)))

-- one more gate
pub peaks-more : (a : Net) (ws row row2 : List ℕ) (l r m n : ℕ) → IsNet a → ArePeaks a ws row → slice_get a.gates (length row) ≡ Some (gate_of (l, r)) → IsPeak a ws (tree_at a l) m → IsPeak a ws (tree_at a r) n → row2 ≡ row ++ max m n ∷ [] → ArePeaks a ws row2
peaks-more a ws row row2 l r m n net p e pl pr q = subst (ArePeaks a ws) (sym q) more
  where
    gate : IsPeak a ws (tree_of_gate a (length row)) (max m n)
    gate = subst (λ (t : Circuit). IsPeak a ws t (max m n)) (sym (gate-is a (length row) (gate_of (l, r)) net.ordered e)) (peak-conjunction a ws (tree_at a l) (tree_at a r) m n pl pr)

    more : ArePeaks a ws (row ++ max m n ∷ [])
    more g lt =
        let len : length (row ++ max m n ∷ []) ≡ length row + 1 = length_push row (max m n) in
        elim (cases_lt g (length row)) [
          | inl b ↦ subst (IsPeak a ws (tree_of_gate a g)) (sym (get_or_append_left row (max m n ∷ []) 0 g b)) (p g b)
          | inr b ↦
              let s : length row ≡ g = omega arith in
              subst (IsPeak a ws (tree_of_gate a g)) (sym (get_or_push row (max m n) 0 g s)) (subst (λ (k : ℕ). IsPeak a ws (tree_of_gate a k) (max m n)) s gate)
        ]

-- the outputs together
pub top-none : (c : CertificateView) (ws : List ℕ) → IsTop c 0 ws 0
top-none c ws = record { bound = λ k i lt r. absurd (omega arith); met = inl refl }

pub top-more : (c : CertificateView) (n l m p : ℕ) (ws : List ℕ) → IsTop c n ws m → trees_of c (name_at c n) ≡ Some (tree_at (net_of c) l) → IsPeak (net_of c) ws (tree_at (net_of c) l) p → IsTop c (n + 1) ws (max m p)
top-more c n l m p ws t e k = record {
  bound = λ j i lt r. elim (cases_lt j n) [
    | inl b ↦ (let x : get_or ws i 0 ≤ m = t.bound j i b r in omega arith)
    | inr b ↦
        let q : j ≡ n = omega arith in
        let a = from-input c (name_at c n) l e i (subst (λ (h : ℕ). ReadsInput c (name_at c h) i) q r) in
        (let x : get_or ws i 0 ≤ p = k.bound i a.0 a.1 in omega arith)
  ];
  met = go (cases_lt m p);
}
  where
    old : max m p ≡ m → (m ≡ 0) ⊎ ((j : ℕ) × (i : ℕ) × (j < n) × ReadsInput c (name_at c j) i × (get_or ws i 0 ≡ m)) → (max m p ≡ 0) ⊎ ((j : ℕ) × (i : ℕ) × (j < n + 1) × ReadsInput c (name_at c j) i × (get_or ws i 0 ≡ max m p))
    old q (inl z) = inl (q ∙ z)
    old q (inr x) = let lt : x.0 < n = x.2 in inr (x.0, x.1, omega arith, x.3, x.4 ∙ sym q)

    new : max m p ≡ p → (p ≡ 0) ⊎ ((i : ℕ) × (i < length (net_of c).inputs) × Reads (tree_at (net_of c) l) (get_or (net_of c).inputs i 0) × (get_or ws i 0 ≡ p)) → (max m p ≡ 0) ⊎ ((j : ℕ) × (i : ℕ) × (j < n + 1) × ReadsInput c (name_at c j) i × (get_or ws i 0 ≡ max m p))
    new q (inl z) = inl (q ∙ z)
    new q (inr x) = inr (n, x.0, omega arith, to-input c (name_at c n) l e x.0 (x.1, x.2), x.3 ∙ sym q)

    go : (m < p) ⊎ (p ≤ m) → (max m p ≡ 0) ⊎ ((j : ℕ) × (i : ℕ) × (j < n + 1) × ReadsInput c (name_at c j) i × (get_or ws i 0 ≡ max m p))
    go (inl lt) = new (omega arith) k.met
    go (inr le) = old (omega arith) t.met
