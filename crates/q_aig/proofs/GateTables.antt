-- Values of gates in a row.
use Rattle.std.proofs.Common.{◌≡◌, ℕ, zero, suc, ◌+◌, ◌<◌, ◌≤◌, Bool, true, false, not, ◌&&◌, cond, List, [], length, map, get_or, set, refl, sym, ap, ◌∙◌, subst, inl, inr, arith}
use Rattle.std.proofs.lemmas.List.{get_or-map, length-map, get_or-set_same, get_or-set_other}
use Rattle.std.proofs.lemmas.Bool.{cases_lt}
use Rattle.q_logic.specs.Prelude.{Assignment, Circuit, value_of, inverter, GateNode, falsum, input_at, gate_at, Operand, Gate, IsThere, AreGates, node_tree, operand_tree, gate_tree, gate_trees}
use Rattle.q_aig.specs.Nets.{operand_of, gate_of}
use Rattle.q_aig.specs.Values.{AreValues, node_value, operand_value, gate_value, IsTableUpto}
use Rattle.q_aig.proofs.Nets.{part-there, IsThere-more, tree-at-gate}

node_value-set : (values table : List Bool) (n k : ℕ) (v : Bool) (x : GateNode) → IsThere n k x → node_value values (set table k v) x ≡ node_value values table x
node_value-set values table n k v falsum h = refl
node_value-set values table n k v (input_at i) h = refl
node_value-set values table n k v (gate_at g) h = get_or-set_other table k g v false (λ e. absurd (omega arith))

operand_value-set : (values table : List Bool) (n k : ℕ) (v : Bool) (o : Operand) → IsThere n k o.node → operand_value values (set table k v) o ≡ operand_value values table o
operand_value-set values table n k v o h = ap (λ (b : Bool). cond o.negated (not b) b) (node_value-set values table n k v o.node h)

gate_value-set : (values table : List Bool) (n k : ℕ) (v : Bool) (p : ℕ × ℕ) → IsThere n k (operand_of p.0).node → IsThere n k (operand_of p.1).node → gate_value values (set table k v) (gate_of p) ≡ gate_value values table (gate_of p)
gate_value-set values table n k v p a b =
    let x = operand_value-set values table n k v (operand_of p.0) a in
    let y = operand_value-set values table n k v (operand_of p.1) b in
    ap (λ (c : Bool). c && operand_value values (set table k v) (operand_of p.1)) x ∙ ap (λ (c : Bool). operand_value values table (operand_of p.0) && c) y

pub table-more : (gates : List (ℕ × ℕ)) (values table : List Bool) (k : ℕ) (v : Bool) → AreGates (length values) 0 (map gate_of gates) → k < length gates → length table ≡ length gates → v ≡ gate_value values table (gate_of (get_or gates k (0, 0))) → IsTableUpto k gates values table → IsTableUpto (k + 1) gates values (set table k v)
table-more gates values table k v o lt len e before j h =
    let g : ℕ × ℕ = get_or gates j (0, 0) in
    let r = part-there (length values) j gates o (omega arith) in
    let same = gate_value-set values table (length values) k v g
    (IsThere-more (length values) j (length values) k (operand_of g.0).node r.0 (omega arith) (omega arith))
    (IsThere-more (length values) j (length values) k (operand_of g.1).node r.1 (omega arith) (omega arith)) in
    elim (cases_lt j k) [
      | inl a ↦ get_or-set_other table k j v false (λ q. absurd (omega arith)) ∙ before j a ∙ sym same
      | inr a ↦
          let q : k ≡ j = omega arith in
          let s : get_or (set table k v) k false ≡ v = get_or-set_same table k v false (omega arith) in
          let t : get_or (set table k v) j false ≡ v = subst (λ (i : ℕ). get_or (set table k v) i false ≡ v) q s in
          let w : v ≡ gate_value values table (gate_of g) = subst (λ (i : ℕ). v ≡ gate_value values table (gate_of (get_or gates i (0, 0)))) q e in
          t ∙ w ∙ sym same
    ]

module _ (A : Assignment) (inputs : List ℕ) (gates : List (ℕ × ℕ)) (values table : List Bool) (o : AreGates (length inputs) 0 (map gate_of gates)) (vs : AreValues A inputs values) (full : IsTableUpto (length gates) gates values table) where
  operand-by : (k : ℕ) → ((g : ℕ) → g < k → get_or table g false ≡ value_of (get_or (gate_trees inputs [] (map gate_of gates)) g (Circuit.constant false)) A) → (x : Operand) → IsThere (length inputs) k x.node → operand_value values table x ≡ value_of (operand_tree inputs (gate_trees inputs [] (map gate_of gates)) x) A
  operand-by k below x h = by-sign x.negated _ _ (by-node x.node h)
    where
      by-node : (n : GateNode) → IsThere (length inputs) k n → node_value values table n ≡ value_of (node_tree inputs (gate_trees inputs [] (map gate_of gates)) n) A
      by-node falsum h = refl
      by-node (input_at i) h = vs i h
      by-node (gate_at g) h = below g h

      by-sign : (b : Bool) (v : Bool) (t : Circuit) → v ≡ value_of t A → cond b (not v) v ≡ value_of (cond b (inverter t) t) A
      by-sign true v t e = ap not e
      by-sign false v t e = e

  gates-by : (n g : ℕ) → g < n → n ≤ length gates → get_or table g false ≡ value_of (get_or (gate_trees inputs [] (map gate_of gates)) g (Circuit.constant false)) A
  gates-by zero g lt le = absurd (omega arith)
  gates-by (suc n) g lt le = go (gates-by n)
    where
      go : ((j : ℕ) → j < n → n ≤ length gates → get_or table j false ≡ value_of (get_or (gate_trees inputs [] (map gate_of gates)) j (Circuit.constant false)) A) → get_or table g false ≡ value_of (get_or (gate_trees inputs [] (map gate_of gates)) g (Circuit.constant false)) A
      go before =
          let p : ℕ × ℕ = get_or gates g (0, 0) in
          let r = part-there (length inputs) g gates o (omega arith) in
          let low : (j : ℕ) → j < g → get_or table j false ≡ value_of (get_or (gate_trees inputs [] (map gate_of gates)) j (Circuit.constant false)) A = λ j h. before j (omega arith) (omega arith) in
          let a = operand-by g low (operand_of p.0) r.0 in
          let b = operand-by g low (operand_of p.1) r.1 in
          let len : length (map gate_of gates) ≡ length gates = length-map gates gate_of in
          let t = tree-at-gate inputs [] (map gate_of gates) g (gate_of (0, 0)) o (omega arith) in
          let m : get_or (map gate_of gates) g (gate_of (0, 0)) ≡ gate_of p = get_or-map gate_of gates g (0, 0) (gate_of (0, 0)) (omega arith) in
          let z : 0 + g ≡ g = omega arith in
          let t2 : get_or (gate_trees inputs [] (map gate_of gates)) g (Circuit.constant false) ≡ gate_tree inputs (gate_trees inputs [] (map gate_of gates)) (gate_of p) = subst (λ (i : ℕ). get_or (gate_trees inputs [] (map gate_of gates)) i (Circuit.constant false) ≡ gate_tree inputs (gate_trees inputs [] (map gate_of gates)) (gate_of p)) z (subst (λ (x : Gate). get_or (gate_trees inputs [] (map gate_of gates)) (0 + g) (Circuit.constant false) ≡ gate_tree inputs (gate_trees inputs [] (map gate_of gates)) x) m t) in
          let f : get_or table g false ≡ gate_value values table (gate_of p) = full g (omega arith) in
          f ∙ ap (λ (c : Bool). c && operand_value values table (operand_of p.1)) a ∙ ap (λ (c : Bool). value_of (operand_tree inputs (gate_trees inputs [] (map gate_of gates)) (operand_of p.0)) A && c) b ∙ ap (λ (y : Circuit). value_of y A) (sym t2)

  pub operand-is : (x : Operand) → IsThere (length inputs) (length gates) x.node → operand_value values table x ≡ value_of (operand_tree inputs (gate_trees inputs [] (map gate_of gates)) x) A
  operand-is x h = operand-by (length gates) (λ g lt. gates-by (length gates) g lt (omega arith)) x h
