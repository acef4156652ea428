-- Circuits that stand for others.
use Rattle.std.proofs.Common.{◌≡◌, ℕ, ◌+◌, ◌<◌, Bool, true, false, not, ◌&&◌, cond, List, [], ◌∷◌, ◌++◌, length, map, get_or, refl, sym, ap, ◌∙◌, subst, inl, inr, arith}
use Rattle.std.proofs.lemmas.List.{length_push, length-map, map_push, get_or_append_left, get_or_past, get_or_push}
use Rattle.std.proofs.lemmas.Bool.{cases_lt}
use Rattle.q_logic.specs.Prelude.{Circuit, value_of, inverter, conjunction, gate_at, Operand, Gate, IsThere, AreGates, node_tree, operand_tree, gate_trees}
use Rattle.q_logic.proofs.Common.{not-not}
use Rattle.q_aig.specs.Nets.{Net, operand_of, turned, gate_of, IsLiteral, tree_at, IsNew, IsNet}
use Rattle.q_aig.specs.Sound.{IsSound}
use Rattle.q_aig.specs.Serving.{Serves, IsConjunction}
use Rattle.q_aig.proofs.Nets.{tree-last, tree-at-gate, keeps-gate, net-gate, net-input}

pub serves-self : (t : Circuit) → Serves t t
serves-self t = record { values = λ A. refl; reads = λ u h. h }

pub serves-same : (s t : Circuit) → s ≡ t → Serves s t
serves-same s t e = subst (λ (x : Circuit). Serves s x) e (serves-self s)

pub serves-then : (r s t : Circuit) → Serves r s → Serves s t → Serves r t
serves-then r s t f g = record { values = λ A. f.values A ∙ g.values A; reads = λ u h. g.reads u (f.reads u h) }

pub serves-inverter : (s t : Circuit) → Serves s t → Serves (inverter s) (inverter t)
serves-inverter s t f = record { values = λ A. ap not (f.values A); reads = λ u h. f.reads u h }

pub serves-conjunction : (s t s2 t2 : Circuit) → Serves s s2 → Serves t t2 → Serves (conjunction s t) (conjunction s2 t2)
serves-conjunction s t s2 t2 f g = record {
  values = λ A. let e = f.values A in let h = g.values A in cc;
  reads = λ u h. elim h [ inl a ↦ inl (f.reads u a) | inr b ↦ inr (g.reads u b) ];
}

and-comm : (a b : Bool) → (a && b) ≡ (b && a)
and-comm true true = refl
and-comm true false = refl
and-comm false true = refl
and-comm false false = refl

pub serves-swap : (s t : Circuit) → Serves (conjunction s t) (conjunction t s)
serves-swap s t = record {
  values = λ A. and-comm (value_of s A) (value_of t A);
  reads = λ u h. elim h [ inl a ↦ inr a | inr b ↦ inl b ];
}

-- the tree of an operand turned round
turned-tree : (n : Bool) (t : Circuit) → Serves (cond (not n) (inverter t) t) (inverter (cond n (inverter t) t))
turned-tree true t = record { values = λ A. sym (not-not (value_of t A)); reads = λ u h. h }
turned-tree false t = serves-self (inverter t)

pub turned-serves : (a : Net) (l m : ℕ) → operand_of m ≡ turned (operand_of l) → Serves (tree_at a m) (inverter (tree_at a l))
turned-serves a l m e =
    let ts : List Circuit = gate_trees a.inputs [] a.gates in
    subst (λ (o : Operand). Serves (operand_tree a.inputs ts o) (inverter (tree_at a l))) (sym e) (turned-tree (operand_of l).negated (node_tree a.inputs ts (operand_of l).node))

pub turned-there : (a : Net) (l m : ℕ) → operand_of m ≡ turned (operand_of l) → IsLiteral a l → IsLiteral a m
turned-there a l m e h = subst (λ (o : Operand). IsThere (length a.inputs) (length a.gates) o.node) (sym e) h

-- the ways of folding
and-false : (a : Bool) → false ≡ (a && false)
and-false true = refl
and-false false = refl

and-true : (a : Bool) → a ≡ (a && true)
and-true true = refl
and-true false = refl

and-same : (a : Bool) → a ≡ (a && a)
and-same true = refl
and-same false = refl

and-not : (a : Bool) → false ≡ (not a && a)
and-not true = refl
and-not false = refl

pub fold-zero : (a : Net) (l : ℕ) → Serves (tree_at a 0) (conjunction (tree_at a l) (tree_at a 0))
fold-zero a l = record { values = λ A. and-false (value_of (tree_at a l) A); reads = λ u h. absurd h }

pub fold-one : (a : Net) (l : ℕ) → Serves (tree_at a l) (conjunction (tree_at a l) (tree_at a 1))
fold-one a l = record { values = λ A. and-true (value_of (tree_at a l) A); reads = λ u h. inl h }

pub fold-same : (a : Net) (l : ℕ) → Serves (tree_at a l) (conjunction (tree_at a l) (tree_at a l))
fold-same a l = record { values = λ A. and-same (value_of (tree_at a l) A); reads = λ u h. inl h }

pub fold-opposite : (a : Net) (l m : ℕ) → operand_of m ≡ turned (operand_of l) → Serves (tree_at a 0) (conjunction (tree_at a m) (tree_at a l))
fold-opposite a l m e =
    let t = turned-serves a l m e in
    record {
      values = λ A. and-not (value_of (tree_at a l) A) ∙ ap (λ (b : Bool). b && value_of (tree_at a l) A) (sym (t.values A));
      reads = λ u h. absurd h;
    }

-- a new gate
pub gate-serves : (a b : Net) (l m r : ℕ) → operand_of r ≡ record { node = gate_at (length a.gates); negated = false } → AreGates (length a.inputs) 0 (a.gates ++ gate_of (l, m) ∷ []) → b.inputs ≡ a.inputs → b.gates ≡ a.gates ++ gate_of (l, m) ∷ [] → IsConjunction a b l m r
gate-serves a b l m r f o ei eg =
    let g : Gate = gate_of (l, m) in
    let len = length_push a.gates g in
    let lt : length a.gates < length (a.gates ++ g ∷ []) = omega arith in
    let new : List Gate = a.gates ++ g ∷ [] in
    let there : IsThere (length a.inputs) (length new) (operand_of r).node = subst (λ (x : Operand). IsThere (length a.inputs) (length new) x.node) (sym f) lt in
    let s : Serves (operand_tree a.inputs (gate_trees a.inputs [] new) (operand_of r)) (conjunction (tree_at a l) (tree_at a m)) =
    subst (λ (x : Operand). Serves (operand_tree a.inputs (gate_trees a.inputs [] new) x) (conjunction (tree_at a l) (tree_at a m))) (sym f) (serves-same _ _ (tree-last a.inputs a.gates g o)) in
    record {
      inputs = ei;
      gates = rw eg (omega arith);
      kept = keeps-gate a b g ei eg;
      there = rw (ei, eg) there;
      serves = rw (ei, eg) s;
    }

-- a gate that is there
pub gate-there : (a : Net) (g l m r : ℕ) (d : Gate) → operand_of r ≡ record { node = gate_at g; negated = false } → AreGates (length a.inputs) 0 a.gates → g < length a.gates → get_or a.gates g d ≡ gate_of (l, m) → IsConjunction a a l m r
gate-there a g l m r d f o lt e =
    let ts : List Circuit = gate_trees a.inputs [] a.gates in
    let h : get_or ts (0 + g) (Circuit.constant false) ≡ conjunction (operand_tree a.inputs ts (get_or a.gates g d).left) (operand_tree a.inputs ts (get_or a.gates g d).right) = tree-at-gate a.inputs [] a.gates g d o lt in
    let h2 : get_or ts (0 + g) (Circuit.constant false) ≡ conjunction (tree_at a l) (tree_at a m) = rw e at h in
    let z : 0 + g ≡ g = omega arith in
    let h3 : get_or ts g (Circuit.constant false) ≡ conjunction (tree_at a l) (tree_at a m) = rw z at h2 in
    record {
      inputs = refl;
      gates = omega arith;
      kept = λ k hk. (hk, refl);
      there = subst (λ (x : Operand). IsThere (length a.inputs) (length a.gates) x.node) (sym f) lt;
      serves = subst (λ (x : Operand). Serves (operand_tree a.inputs ts x) (conjunction (tree_at a l) (tree_at a m))) (sym f) (serves-same _ _ h3);
    }

-- a fold
pub folded : (a : Net) (l m r : ℕ) → IsLiteral a r → Serves (tree_at a r) (conjunction (tree_at a l) (tree_at a m)) → IsConjunction a a l m r
folded a l m r h s = record { inputs = refl; gates = omega arith; kept = λ k hk. (hk, refl); there = h; serves = s }

pub swapped : (a b : Net) (l m r : ℕ) → IsConjunction a b l m r → IsConjunction a b m l r
swapped a b l m r h = record { inputs = h.inputs; gates = h.gates; kept = h.kept; there = h.there; serves = serves-then _ _ _ h.serves (serves-swap (tree_at a l) (tree_at a m)) }

pub sound-gate : (ins : List ℕ) (gs gs2 : List (ℕ × ℕ)) (ms ms2 : List Bool) (q q2 : List ℕ) (l m : ℕ) → IsSound ins gs ms q → length gs < 1152921504606846976 → IsThere (length ins) (length gs) (operand_of l).node → IsThere (length ins) (length gs) (operand_of m).node → gs2 ≡ gs ++ (l, m) ∷ [] → ms2 ≡ ms ++ false ∷ [] → q2 ≡ q ++ 0 ∷ [] → IsSound ins gs2 ms2 q2
sound-gate ins gs gs2 ms ms2 q q2 l m s lt hl hm eg em eq =
    let len : length (map gate_of gs) ≡ length gs = length-map gs gate_of in
    let el : length (map gate_of gs) < 1152921504606846976 = omega arith in
    let a : IsThere (length ins) (length (map gate_of gs)) (operand_of l).node = rw len hl in
    let b : IsThere (length ins) (length (map gate_of gs)) (operand_of m).node = rw len hm in
    let n : IsNet (record { inputs = ins; gates = map gate_of gs ++ gate_of (l, m) ∷ [] }) = net-gate ins (map gate_of gs) (gate_of (l, m)) s.net el a b in
    let e : map gate_of (gs ++ (l, m) ∷ []) ≡ map gate_of gs ++ gate_of (l, m) ∷ [] = map_push gate_of gs (l, m) in
    let lg = length_push gs (l, m) in
    let lm = length_push ms false in
    let lq = length_push q 0 in
    let rm = s.marks_room in
    let rq = s.queue_room in
    record {
      net = rw (eg, e) n;
      marks_room = rw (eg, em) (omega arith);
      queue_room = rw (eg, eq) (omega arith);
      unmarked = λ g. rw em (unmarked-push ms s.unmarked g);
    }
  where
    unmarked-push : (ms : List Bool) → ((g : ℕ) → get_or ms g false ≡ false) → (g : ℕ) → get_or (ms ++ false ∷ []) g false ≡ false
    unmarked-push ms h g = elim (cases_lt g (length ms)) [
      | inl a ↦ get_or_append_left ms (false ∷ []) false g a ∙ h g
      | inr b ↦ elim (cases_lt (length ms) g) [
        | inl c ↦ get_or_past (ms ++ false ∷ []) g false (let e = length_push ms false in omega arith)
        | inr c ↦ get_or_push ms false false g (omega arith)
      ]
    ]

-- the gate that came last
pub gate-conjunction : (ins : List ℕ) (gs gs2 : List (ℕ × ℕ)) (l m r : ℕ) → IsNet (record { inputs = ins; gates = map gate_of gs }) → length gs < 1152921504606846976 → IsLiteral (record { inputs = ins; gates = map gate_of gs }) l → IsLiteral (record { inputs = ins; gates = map gate_of gs }) m → gs2 ≡ gs ++ (l, m) ∷ [] → operand_of r ≡ record { node = gate_at (length gs); negated = false } → IsConjunction (record { inputs = ins; gates = map gate_of gs }) (record { inputs = ins; gates = map gate_of gs2 }) l m r
gate-conjunction ins gs gs2 l m r n lt hl hm eg f =
    let len : length (map gate_of gs) ≡ length gs = length-map gs gate_of in
    let el : length (map gate_of gs) < 1152921504606846976 = omega arith in
    let more : IsNet (record { inputs = ins; gates = map gate_of gs ++ gate_of (l, m) ∷ [] }) = net-gate ins (map gate_of gs) (gate_of (l, m)) n el hl hm in
    let e : map gate_of gs2 ≡ map gate_of gs ++ gate_of (l, m) ∷ [] = ap (map gate_of) eg ∙ map_push gate_of gs (l, m) in
    let f2 : operand_of r ≡ record { node = gate_at (length (map gate_of gs)); negated = false } = f ∙ ap (λ (k : ℕ). record { node = gate_at k; negated = false }) (sym len) in
    gate-serves (record { inputs = ins; gates = map gate_of gs }) (record { inputs = ins; gates = map gate_of gs2 }) l m r f2 more.ordered refl e

pub sound-input : (ins ins2 : List ℕ) (gs : List (ℕ × ℕ)) (ms : List Bool) (q : List ℕ) (v : ℕ) → IsSound ins gs ms q → length ins < 1152921504606846976 → IsNew ins v → ins2 ≡ ins ++ v ∷ [] → IsSound ins2 gs ms q
sound-input ins ins2 gs ms q v s lt new e = record {
  net = rw e (net-input ins (map gate_of gs) v s.net lt new);
  marks_room = s.marks_room;
  queue_room = s.queue_room;
  unmarked = s.unmarked;
}
