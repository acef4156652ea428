-- The canonical text is read as circuits of the same values.
use Rattle.std.proofs.Common.{◌≡◌, ◌⊎◌, ℕ, zero, suc, ◌+◌, ◌<◌, ◌&&◌, cond, not, Bool, true, false, nat_le, List, [], ◌∷◌, length, map, get_or, Ok, Result, refl, ap, sym, ◌∙◌, arith, subst, inl, inr, Some}
use Rattle.std.proofs.lemmas.List.{length-map}
use Rattle.std.proofs.lemmas.Bool.{cases_lt}
use Rattle.q_logic.specs.Prelude.{Assignment, value_of, GateNode, falsum, input_at, gate_at, Operand, Gate, NamedOutput, CertificateView, IsThere, AreGates, gate_trees, tree_of}
use Rattle.q_gates.specs.Gates.{no_gate}
use Rattle.q_gates.specs.Uses.{part_of, Uses, IsFullOrder}
use Rattle.q_aiger.specs.Cones.{no_output, output, left, right, AreCones, place_in}
use Rattle.q_aiger.specs.Circuits.{parse, moved_node, moved, moved_gate, moved_output, sorted_circuits}
use Rattle.q_aiger.specs.Writing.{literal_of, names_of, circuit_text, IsCanonical}
use Rattle.q_aiger.specs.Grammar.{IsFile, Circuits}
use Rattle.q_aiger.specs.RoundTrip.{IsSpellable, HaveSameValues, IsReadAs}
use Rattle.q_aiger.proofs.AigerGrammar.{file-parsed}
use Rattle.q_aiger.proofs.Canonical.{turned_gate, turned_gates, written_of, Known, known, gates-there, length-vars, vars-at, canonical-file}
use Rattle.q_aiger.proofs.CanonicalLines.{vars_from}
use Rattle.q_aiger.proofs.CertificateValues.{node_gives, gives, gate_gives, tree_gives, operand-value, tree-value, AreThere, AreValuesOf, sorted-operand}

module _ (c : CertificateView) (kept : List ℕ) (a : AreCones c kept) (o : AreGates (length c.inputs) 0 c.gates) where
  -- the value of the gate that the text has at a place
  abbrev cone_gives : Assignment → ℕ → Bool
  cone_gives A k = tree_gives c.inputs c.gates A (get_or kept k 0)

  node-kept : (A : Assignment) (x : GateNode) → Known (length c.inputs) kept x → node_gives c.inputs (cone_gives A) A (moved_node kept x) ≡ node_gives c.inputs (tree_gives c.inputs c.gates A) A x
  node-kept A falsum h = refl
  node-kept A (input_at i) h = refl
  node-kept A (gate_at g) h = ap (tree_gives c.inputs c.gates A) h.1

  operand-kept : (A : Assignment) (x : Operand) → Known (length c.inputs) kept x.node → gives c.inputs (cone_gives A) A (moved kept x) ≡ gives c.inputs (tree_gives c.inputs c.gates A) A x
  operand-kept A x h = ap (λ (b : Bool). cond x.negated (not b) b) (node-kept A x.node h)

  gate-kept : (A : Assignment) (g : Gate) → Known (length c.inputs) kept g.left.node → Known (length c.inputs) kept g.right.node → gate_gives c.inputs (cone_gives A) A (turned_gate (length c.inputs) kept g) ≡ gate_gives c.inputs (tree_gives c.inputs c.gates A) A g
  gate-kept A g h k = go (nat_le (literal_of (length c.inputs) kept g.right) (literal_of (length c.inputs) kept g.left))
    where
      both : (x y u v : Bool) → x ≡ u → y ≡ v → x && y ≡ u && v
      both x y u v p q = ap (λ (b : Bool). b && y) p ∙ ap (λ (b : Bool). u && b) q

      swap : (x y : Bool) → x && y ≡ y && x
      swap true true = refl
      swap true false = refl
      swap false true = refl
      swap false false = refl

      go : (b : Bool) → gate_gives c.inputs (cone_gives A) A (cond b (moved_gate kept g) (record { left = moved kept g.right; right = moved kept g.left })) ≡ gate_gives c.inputs (tree_gives c.inputs c.gates A) A g
      go true = both _ _ _ _ (operand-kept A g.left h) (operand-kept A g.right k)
      go false = both _ _ _ _ (operand-kept A g.right k) (operand-kept A g.left h) ∙ swap (gives c.inputs (tree_gives c.inputs c.gates A) A g.right) (gives c.inputs (tree_gives c.inputs c.gates A) A g.left)

  turned-at : (gs : List ℕ) (k : ℕ) → k < length gs → get_or (turned_gates (length c.inputs) kept c.gates gs) k no_gate ≡ turned_gate (length c.inputs) kept (get_or c.gates (get_or gs k 0) no_gate)
  turned-at [] k lt = absurd (omega arith)
  turned-at (g ∷ gs) zero lt = refl
  turned-at (g ∷ gs) (suc k) lt = turned-at gs k (omega arith)

  length-turned : length (written_of c kept).gates ≡ length kept
  length-turned = length-map kept (λ (g : ℕ). turned_gate (length c.inputs) kept (get_or c.gates g no_gate))

  known-at : (k : ℕ) → k < length kept → Known (length c.inputs) kept (get_or c.gates (get_or kept k 0) no_gate).left.node × Known (length c.inputs) kept (get_or c.gates (get_or kept k 0) no_gate).right.node
  known-at k lt =
      let p = a.parts k lt in
      let t = gates-there (length c.inputs) 0 c.gates (get_or kept k 0) o (a.there k lt) in
      (known c kept (0 + get_or kept k 0) (get_or c.gates (get_or kept k 0) no_gate).left.node a (left (get_or kept k 0) p) t.0, known c kept (0 + get_or kept k 0) (get_or c.gates (get_or kept k 0) no_gate).right.node a (right (get_or kept k 0) p) t.1)

  written-values : (A : Assignment) → AreValuesOf (written_of c kept) (cone_gives A) A
  written-values A k lt =
      let len = length-turned in
      let below : k < length kept = omega arith in
      let h = known-at k below in
      let e = turned-at kept k below in
      tree-value c.inputs c.gates A (get_or kept k 0) o (a.there k below)
      ∙ (sym (gate-kept A (get_or c.gates (get_or kept k 0) no_gate) h.0 h.1) ∙ ap (gate_gives c.inputs (cone_gives A) A) (sym e))

  known-there : (x : GateNode) → Known (length c.inputs) kept x → IsThere (length c.inputs) (length kept) (moved_node kept x)
  known-there falsum h = tt
  known-there (input_at i) h = h
  known-there (gate_at g) h = h.0

  turned-there : (g : Gate) → Known (length c.inputs) kept g.left.node → Known (length c.inputs) kept g.right.node → IsThere (length c.inputs) (length kept) (turned_gate (length c.inputs) kept g).left.node × IsThere (length c.inputs) (length kept) (turned_gate (length c.inputs) kept g).right.node
  turned-there g h k = go (nat_le (literal_of (length c.inputs) kept g.right) (literal_of (length c.inputs) kept g.left))
    where
      go : (b : Bool) → IsThere (length c.inputs) (length kept) (let x : Gate = cond b (moved_gate kept g) (record { left = moved kept g.right; right = moved kept g.left }) in x.left.node) × IsThere (length c.inputs) (length kept) (let x : Gate = cond b (moved_gate kept g) (record { left = moved kept g.right; right = moved kept g.left }) in x.right.node)
      go true = (known-there g.left.node h, known-there g.right.node k)
      go false = (known-there g.right.node k, known-there g.left.node h)

  written-there : AreThere (written_of c kept)
  written-there k lt =
      let len = length-turned in
      let below : k < length kept = omega arith in
      let h = known-at k below in
      let e = turned-at kept k below in
      subst (λ (m : ℕ). IsThere (length c.inputs) m (get_or (written_of c kept).gates k no_gate).left.node × IsThere (length c.inputs) m (get_or (written_of c kept).gates k no_gate).right.node) (sym len)
      (subst (λ (g : Gate). IsThere (length c.inputs) (length kept) g.left.node × IsThere (length c.inputs) (length kept) g.right.node) (sym e)
      (turned-there (get_or c.gates (get_or kept k 0) no_gate) h.0 h.1))

  names-kept : (os : List NamedOutput) (order : List ℕ) → names_of (map (moved_output order) (map (moved_output kept) os)) ≡ names_of os
  names-kept [] order = refl
  names-kept (x ∷ os) order = ap (λ (ns : List ℕ). x.name ∷ ns) (names-kept os order)

  output-at : (os : List NamedOutput) (order : List ℕ) (i : ℕ) → i < length os → (get_or (map (moved_output order) (map (moved_output kept) os)) i no_output).operand ≡ moved order (moved kept (get_or os i no_output).operand)
  output-at [] order i lt = absurd (omega arith)
  output-at (x ∷ os) order zero lt = refl
  output-at (x ∷ os) order (suc i) lt = output-at os order i (omega arith)

  pub same-values : (order : List ℕ) → ((i : ℕ) → i < length c.outputs → IsThere (length c.inputs) (length c.gates) (get_or c.outputs i no_output).operand.node) → IsFullOrder (written_of c kept).gates order → HaveSameValues c (sorted_circuits order (written_of c kept))
  same-values order h f = record {
    inputs = refl;
    names = names-kept c.outputs order;
    values = λ i lt A.
        let k = known c kept (length c.gates) (get_or c.outputs i no_output).operand.node a (output i lt) (h i lt) in
        let t = subst (λ (m : ℕ). IsThere (length c.inputs) m (moved kept (get_or c.outputs i no_output).operand).node) (sym length-turned) (known-there (get_or c.outputs i no_output).operand.node k) in
        ap (λ (x : Operand). value_of (tree_of (sorted_circuits order (written_of c kept)) x) A) (output-at c.outputs order i lt)
        ∙ (sorted-operand (written_of c kept) order (cone_gives A) A (moved kept (get_or c.outputs i no_output).operand) written-there f (written-values A) t
        ∙ (operand-kept A (get_or c.outputs i no_output).operand k ∙ sym (operand-value c.inputs (gate_trees c.inputs [] c.gates) A (get_or c.outputs i no_output).operand)));
  }

  -- operands come first in the text
  part-before : (i : ℕ) (x : GateNode) (h : ℕ) → i < length kept → Known (length c.inputs) kept x → IsThere (length c.inputs) (get_or kept i 0) x → part_of (moved_node kept x) ≡ Some h → h < i
  part-before i falsum h lt k t e = absurd (cc)
  part-before i (input_at j) h lt k t e = absurd (cc)
  part-before i (gate_at g) h lt k t e =
      let z : place_in kept g ≡ h = cc in
      let p : place_in kept g < length kept = k.0 in
      let q : get_or kept (place_in kept g) 0 ≡ g = k.1 in
      elim (cases_lt (place_in kept g) i) [
        | inl b ↦ omega arith
        | inr b ↦ elim (cases_lt i (place_in kept g)) [
          | inl d ↦ absurd (let up = a.ascending i (place_in kept g) d p in omega arith)
          | inr d ↦ absurd (let y : place_in kept g ≡ i = omega arith in let w : get_or kept i 0 ≡ g = subst (λ (j : ℕ). get_or kept j 0 ≡ g) y q in omega arith)
        ]
      ]

  gate-before : (i : ℕ) (g : Gate) (h : ℕ) → i < length kept → Known (length c.inputs) kept g.left.node → Known (length c.inputs) kept g.right.node → IsThere (length c.inputs) (get_or kept i 0) g.left.node → IsThere (length c.inputs) (get_or kept i 0) g.right.node → (part_of (turned_gate (length c.inputs) kept g).left.node ≡ Some h) ⊎ (part_of (turned_gate (length c.inputs) kept g).right.node ≡ Some h) → h < i
  gate-before i g h lt k l t u e = go (nat_le (literal_of (length c.inputs) kept g.right) (literal_of (length c.inputs) kept g.left)) e
    where
      go : (b : Bool) → (part_of (let x : Gate = cond b (moved_gate kept g) (record { left = moved kept g.right; right = moved kept g.left }) in x.left.node) ≡ Some h) ⊎ (part_of (let x : Gate = cond b (moved_gate kept g) (record { left = moved kept g.right; right = moved kept g.left }) in x.right.node) ≡ Some h) → h < i
      go true (inl e) = part-before i g.left.node h lt k t e
      go true (inr e) = part-before i g.right.node h lt l u e
      go false (inl e) = part-before i g.right.node h lt l u e
      go false (inr e) = part-before i g.left.node h lt k t e

  uses-before : (i h : ℕ) → i < length kept → Uses (written_of c kept).gates i h → h < i
  uses-before i h lt u =
      let k = known-at i lt in
      let t = gates-there (length c.inputs) 0 c.gates (get_or kept i 0) o (a.there i lt) in
      let z : 0 + get_or kept i 0 ≡ get_or kept i 0 = omega arith in
      let tl = subst (λ (m : ℕ). IsThere (length c.inputs) m (get_or c.gates (get_or kept i 0) no_gate).left.node) z t.0 in
      let tr = subst (λ (m : ℕ). IsThere (length c.inputs) m (get_or c.gates (get_or kept i 0) no_gate).right.node) z t.1 in
      let v = subst (λ (g : Gate). (part_of g.left.node ≡ Some h) ⊎ (part_of g.right.node ≡ Some h)) (turned-at kept i lt) u in
      gate-before i (get_or c.gates (get_or kept i 0) no_gate) h lt k.0 k.1 tl tr v

  pub in-order : IsFullOrder (written_of c kept).gates (vars_from 0 (length kept))
  in-order =
      let len = length-vars 0 (length kept) in
      let lw = length-turned in
      record {
        sorted = record {
          once = λ i j li lj e. let p = vars-at 0 (length kept) i (omega arith) in let q = vars-at 0 (length kept) j (omega arith) in omega arith;
          there = λ i li. let p = vars-at 0 (length kept) i (omega arith) in omega arith;
          earlier = λ i h li u.
              let p : get_or (vars_from 0 (length kept)) i 0 ≡ 0 + i = vars-at 0 (length kept) i (omega arith) in
              let z : get_or (vars_from 0 (length kept)) i 0 ≡ i = omega arith in
              let b : h < i = uses-before i h (omega arith) (subst (λ (g : ℕ). Uses (written_of c kept).gates g h) z u) in
              let q = vars-at 0 (length kept) h (omega arith) in
              (h, b, omega arith);
        };
        all = λ g lt. let q = vars-at 0 (length kept) g (omega arith) in (g, omega arith, omega arith);
      }

same-file : (bytes : List ℕ) (v w : CertificateView) → IsFile bytes v → IsFile bytes w → v ≡ w
same-file bytes v w f g = same (parse bytes) v w (file-parsed bytes v f) (file-parsed bytes w g)
  where
    same : (r : Result CertificateView (ℕ × ℕ)) (x y : CertificateView) → r ≡ Ok x → r ≡ Ok y → x ≡ y
    same r x y p q = cc

pub written-same : (c : CertificateView) (gates : ℕ) (text : List ℕ) → IsCanonical c gates text → IsSpellable c gates text → (d : CertificateView) → Circuits text d → HaveSameValues c d
written-same c gates text k h d r =
    let hk : IsSpellable c (length k.kept) text = subst (λ (n : ℕ). IsSpellable c n text) k.count h in
    let s : IsSpellable c (length k.kept) (circuit_text c k.kept) = subst (IsSpellable c (length k.kept)) k.is hk in
    let f : IsFile text (written_of c k.kept) = subst (λ (bs : List ℕ). IsFile bs (written_of c k.kept)) (sym k.is) (canonical-file c k.kept k.cones s) in
    let e : r.written ≡ written_of c k.kept = same-file text r.written (written_of c k.kept) r.file f in
    let full : IsFullOrder (written_of c k.kept).gates r.order = subst (λ (w : CertificateView). IsFullOrder w.gates r.order) e r.full in
    subst (HaveSameValues c) (sym (r.sorted ∙ ap (sorted_circuits r.order) e)) (same-values c k.kept k.cones h.ordered r.order h.outputs full)

pub written-read : (c : CertificateView) (gates : ℕ) (text : List ℕ) → IsCanonical c gates text → IsSpellable c gates text → IsReadAs c text
written-read c gates text k h =
    let s : IsSpellable c (length k.kept) (circuit_text c k.kept) = subst (IsSpellable c (length k.kept)) k.is (subst (λ (n : ℕ). IsSpellable c n text) k.count h) in
    record {
      circuits = sorted_circuits (vars_from 0 (length k.kept)) (written_of c k.kept);
      file = record {
        written = written_of c k.kept;
        file = subst (λ (bs : List ℕ). IsFile bs (written_of c k.kept)) (sym k.is) (canonical-file c k.kept k.cones s);
        order = vars_from 0 (length k.kept);
        full = in-order c k.kept k.cones h.ordered;
        sorted = refl;
      };
      same = written-same c gates text k h;
    }
