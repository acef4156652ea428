-- Nodes, one further, and that none depends on itself.
use Rattle.std.proofs.Common.{◌≡◌, ◌⊎◌, ℕ, ◌+◌, ◌-◌, ◌<◌, ◌≤◌, Bool, true, false, cond, ltb, List, [], ◌∷◌, ◌++◌, length, get_or, slice_get, inl, inr, arith, refl, sym, ap, ◌∙◌, subst, Option, Some, None}
use Rattle.std.proofs.lemmas.List.{length_push, get_or_append_left, get_or_push, get_or_past}
use Rattle.std.proofs.lemmas.Bool.{cases_lt}
use Rattle.std.proofs.lemmas.Option.{slice_get-get_or, get_or_from_slice_get, same_Some, slice_get_within}
use Rattle.q_logic.specs.Prelude.{Circuit, GateNode, falsum, input_at, gate_at, Operand, Gate, IsThere, node_tree, operand_tree, gate_tree, gate_trees}
use Rattle.q_aig.specs.Prelude.{Net, tree_at, operand_of, IsNet}
use Rattle.q_aig.proofs.Nets.{IsThere-more, AreGates-at}
use Rattle.q_certificate.specs.Prelude.{look_at, tree_of_gate}
use Rattle.q_certificate.proofs.CircuitCopies.{gate-is}
use Rattle.q_gates.specs.Gates.{no_gate}
use Rattle.q_gates.specs.Uses.{Parts, part_at, parts_of, Uses, DependsOn, direct, further, AreDefined}
use Rattle.q_herbrand.specs.declared.slots.Slots.{Slots}
use Rattle.q_herbrand.specs.Under.{under, twice}
use Rattle.q_herbrand.specs.Slots.{AreSlots, IsResolved}
use Rattle.q_herbrand.specs.Nodes.{node_part, filled_part, AreSlotNodes, AreGateNodes, AreNodes}
use Rattle.q_herbrand.proofs.ReplacedInputs.{under-operand, size, operand-size}

part-left : (ps : Parts) (g : Gate) (i : ℕ) → i < length ps → part_at (ps ++ g ∷ []) i ≡ part_at ps i
part-left ps g i lt = ap parts_of (get_or_append_left ps (g ∷ []) no_gate i lt)

part-last : (ps : Parts) (g : Gate) (i : ℕ) → i ≡ length ps → part_at (ps ++ g ∷ []) i ≡ parts_of g
part-last ps g i e = ap parts_of (get_or_push ps g no_gate i (sym e))

pub slot-nodes-none : (a : Net) (k : ℕ) (ds : List (Option ℕ)) (ps : Parts) → ps ≡ [] → AreSlotNodes a k ds 0 ps
slot-nodes-none a k ds ps e = record { room = ap length e; parts = λ s lt. absurd (omega arith) }

pub slot-nodes-more : (a : Net) (k : ℕ) (ds : List (Option ℕ)) (n : ℕ) (ps ps2 : Parts) (g : Gate) →
    AreSlotNodes a k ds n ps → ps2 ≡ ps ++ g ∷ [] →
    parts_of g ≡ (filled_part k a.inputs (look_at ds n), None) → AreSlotNodes a k ds (n + 1) ps2
slot-nodes-more a k ds n ps ps2 g s e here =
    let len = length_push ps g in
    let room : length ps ≡ n = s.room in
    record {
      room = rw e (omega arith);
      parts = λ i lt. rw e (elim (cases_lt i n) [
        | inl h ↦ part-left ps g i (omega arith) ∙ s.parts i h
        | inr h ↦
            let q : i ≡ n = omega arith in
            part-last ps g i (omega arith) ∙ here ∙ ap (λ (j : ℕ). (filled_part k a.inputs (look_at ds j), None)) (sym q)
      ]);
    }

pub gate-nodes-none : (a : Net) (k : ℕ) (ps : Parts) → AreGateNodes a k ps 0 ps
gate-nodes-none a k ps = record {
  room = omega arith;
  kept = λ s lt. refl;
  parts = λ g x lt. absurd (omega arith);
}

some-same : (x y : Gate) → Some x ≡ Some y → x ≡ y
some-same x y e = cc

pub gate-nodes-more : (a : Net) (k : ℕ) (old : Parts) (n : ℕ) (ps ps2 : Parts) (g x : Gate) →
    AreGateNodes a k old n ps → ps2 ≡ ps ++ g ∷ [] → slice_get a.gates n ≡ Some x →
    parts_of g ≡ (node_part k a.inputs x.left.node, node_part k a.inputs x.right.node) →
    AreGateNodes a k old (n + 1) ps2
gate-nodes-more a k old n ps ps2 g x s e there here =
    let len = length_push ps g in
    let room : length ps ≡ length old + n = s.room in
    record {
      room = rw e (omega arith);
      kept = λ i lt. rw e (part-left ps g i (omega arith) ∙ s.kept i lt);
      parts = λ i y lt q. rw e (elim (cases_lt i n) [
        | inl h ↦ part-left ps g (length old + i) (omega arith) ∙ s.parts i y h q
        | inr h ↦
            let w : n ≡ i = omega arith in
            let z : x ≡ y = some-same x y (sym there ∙ ap (slice_get a.gates) w ∙ q) in
            part-last ps g (length old + i) (omega arith) ∙ here
            ∙ ap (λ (v : Gate). (node_part k a.inputs v.left.node, node_part k a.inputs v.right.node)) z
      ]);
    }

pub nodes-all : (a : Net) (k : ℕ) (ds : List (Option ℕ)) (ps ps2 : Parts) → k ≡ length ds →
    AreSlotNodes a k ds (length ds) ps → AreGateNodes a k ps (length a.gates) ps2 → AreNodes a ds ps2
nodes-all a k ds ps ps2 e s g =
    let room : length ps ≡ length ds = s.room in
    let more : length ps2 ≡ length ps + length a.gates = g.room in
    record {
      room = omega arith;
      slots = λ i lt. g.kept i (omega arith) ∙ s.parts i lt
          ∙ ap (λ (n : ℕ). (filled_part n a.inputs (look_at ds i), None)) e;
      gates = λ i x q.
          let lt : i < length a.gates = slice_get_within a.gates i x q in
          ap (λ (n : ℕ). part_at ps2 (n + i)) (sym room) ∙ g.parts i x lt q
          ∙ ap (λ (n : ℕ). (node_part n a.inputs x.left.node, node_part n a.inputs x.right.node)) e;
    }

-- A node is what it is made of, under a circuit for each slot.
abbrev node_circuit : Net → ℕ → (ℕ → Circuit) → ℕ → Circuit
node_circuit a k r m = cond (ltb m k) (r m) (under r (tree_of_gate a (m - k)))

abbrev rank : Net → ℕ → (ℕ → Circuit) → ℕ → ℕ
rank a k r m = size (node_circuit a k r m)

below-is : (m k : ℕ) → m < k → ltb m k ≡ true
below-is m k h = grind arith

above-is : (m k : ℕ) → k ≤ m → ltb m k ≡ false
above-is m k h = grind arith

slot-circuit : (a : Net) (k : ℕ) (r : ℕ → Circuit) (m : ℕ) → m < k → node_circuit a k r m ≡ r m
slot-circuit a k r m h = ap (λ (b : Bool). cond b (r m) (under r (tree_of_gate a (m - k)))) (below-is m k h)

gate-circuit : (a : Net) (k : ℕ) (r : ℕ → Circuit) (g : ℕ) →
    node_circuit a k r (k + g) ≡ under r (tree_of_gate a g)
gate-circuit a k r g =
    let e : k + g - k ≡ g = omega arith in
    ap (λ (b : Bool). cond b (r (k + g)) (under r (tree_of_gate a (k + g - k)))) (above-is (k + g) k (omega arith))
    ∙ ap (λ (j : ℕ). under r (tree_of_gate a j)) e

part-used : (a : Net) (k : ℕ) (r : ℕ → Circuit) (n : GateNode) (h : ℕ) →
    ((i : ℕ) → i < length a.inputs → get_or a.inputs i 0 < k) → IsThere (length a.inputs) (length a.gates) n →
    node_part k a.inputs n ≡ Some h →
    (h < k + length a.gates) ×
    (rank a k r h ≤ size (under r (node_tree a.inputs (gate_trees a.inputs [] a.gates) n)))
part-used a k r falsum h names t e = absurd (cc)
part-used a k r (input_at i) h names t e =
    let q : get_or a.inputs i 0 ≡ h = same_Some (get_or a.inputs i 0) h e in
    let lt : get_or a.inputs i 0 < k = names i t in
    let c : rank a k r h ≡ size (r h) = ap size (slot-circuit a k r h (omega arith)) in
    let d : size (r (get_or a.inputs i 0)) ≡ size (r h) = ap (λ (x : ℕ). size (r x)) q in
    (omega arith, omega arith)
part-used a k r (gate_at g) h names t e =
    let q : k + g ≡ h = same_Some (k + g) h e in
    let c : rank a k r (k + g) ≡ size (under r (tree_of_gate a g)) = ap size (gate-circuit a k r g) in
    let d : rank a k r (k + g) ≡ rank a k r h = ap (rank a k r) q in
    (omega arith, omega arith)

operand-used : (a : Net) (k : ℕ) (r : ℕ → Circuit) (o : Operand) (h : ℕ) →
    ((i : ℕ) → i < length a.inputs → get_or a.inputs i 0 < k) →
    IsThere (length a.inputs) (length a.gates) o.node → node_part k a.inputs o.node ≡ Some h →
    (h < k + length a.gates) ×
    (rank a k r h ≤ size (under r (operand_tree a.inputs (gate_trees a.inputs [] a.gates) o)))
operand-used a k r o h names t e =
    let nt : Circuit = node_tree a.inputs (gate_trees a.inputs [] a.gates) o.node in
    let p = part-used a k r o.node h names t e in
    let p1 : rank a k r h ≤ size (under r (node_tree a.inputs (gate_trees a.inputs [] a.gates) o.node)) = p.1 in
    let s = operand-size o.negated (under r (node_tree a.inputs (gate_trees a.inputs [] a.gates) o.node)) in
    let q : size (under r (operand_tree a.inputs (gate_trees a.inputs [] a.gates) o)) ≡ size
    (cond o.negated (Circuit.inverter (under r (node_tree a.inputs (gate_trees a.inputs [] a.gates) o.node)))
    (under r (node_tree a.inputs (gate_trees a.inputs [] a.gates) o.node))) =
    ap size (under-operand r o.negated (node_tree a.inputs (gate_trees a.inputs [] a.gates) o.node)) in
    (p.0, omega arith)

module _ (a : Net) (z : Slots) (r : ℕ → Circuit) (ps : Parts) (net : IsNet a) (s : AreSlots a z) (q : IsResolved a
    z r) (ns : AreNodes a z.definitions.items ps) where
  slot-used : (g h : ℕ) → g < length z.definitions.items → (m : Option ℕ) → look_at z.definitions.items g ≡ m →
      filled_part (length z.definitions.items) a.inputs m ≡ Some h →
      (h < length ps) × (rank a (length z.definitions.items) r h < rank a (length z.definitions.items) r g)
  slot-used g h lt None e f = absurd (cc)
  slot-used g h lt (Some l) e f =
      let p = operand-used a (length z.definitions.items) r (operand_of l) h s.names (s.literals g l e) f in
      let p0 : h < length z.definitions.items + length a.gates = p.0 in
      let p1 : rank a (length z.definitions.items) r h ≤ size (under r (tree_at a l)) = p.1 in
      let room : length ps ≡ length z.definitions.items + length a.gates = ns.room in
      let c : rank a (length z.definitions.items) r g ≡ size (r g) =
      ap size (slot-circuit a (length z.definitions.items) r g lt) in
      let d : size (r g) ≡ size (twice (under r (tree_at a l))) = ap size (q.filled g l e) in
      (omega arith, omega arith)

  gate-part-used : (j h : ℕ) → j < length a.gates → (x : Gate) → slice_get a.gates j ≡ Some x → (o : Operand) →
      ((o ≡ x.left) ⊎ (o ≡ x.right)) → node_part (length z.definitions.items) a.inputs o.node ≡ Some h →
      (h < length ps) × (rank a (length z.definitions.items) r h < rank a (length z.definitions.items) r
      (length z.definitions.items + j))
  gate-part-used j h lt x e o side f =
      let at : get_or a.gates j x ≡ x = get_or_from_slice_get a.gates j x x e in
      let both = AreGates-at (length a.inputs) 0 a.gates j x net.ordered lt in
      let tl : IsThere (length a.inputs) (0 + j) x.left.node =
      subst (λ (y : Gate). IsThere (length a.inputs) (0 + j) y.left.node) at both.0 in
      let tr : IsThere (length a.inputs) (0 + j) x.right.node =
      subst (λ (y : Gate). IsThere (length a.inputs) (0 + j) y.right.node) at both.1 in
      let room : length ps ≡ length z.definitions.items + length a.gates = ns.room in
      let t : tree_of_gate a j ≡ gate_tree a.inputs (gate_trees a.inputs [] a.gates) x = gate-is a j x net.ordered e in
      let c : rank a (length z.definitions.items) r (length z.definitions.items + j) ≡
      size (under r (gate_tree a.inputs (gate_trees a.inputs [] a.gates) x)) =
      ap size (gate-circuit a (length z.definitions.items) r j) ∙ ap (λ (y : Circuit). size (under r y)) t in
      elim side [
        | inl w ↦
            let p = operand-used a (length z.definitions.items) r x.left h s.names
            (IsThere-more (length a.inputs) (0 + j) (length a.inputs) (length a.gates) x.left.node tl (omega arith)
            (omega arith)) (ap (λ (y : Operand). node_part (length z.definitions.items) a.inputs y.node) (sym w) ∙ f) in
            let p0 : h < length z.definitions.items + length a.gates = p.0 in
            let p1 : rank a (length z.definitions.items) r h ≤ size
            (under r (operand_tree a.inputs (gate_trees a.inputs [] a.gates) x.left)) = p.1 in
            (omega arith, omega arith)
        | inr w ↦
            let p = operand-used a (length z.definitions.items) r x.right h s.names
            (IsThere-more (length a.inputs) (0 + j) (length a.inputs) (length a.gates) x.right.node tr (omega arith)
            (omega arith)) (ap (λ (y : Operand). node_part (length z.definitions.items) a.inputs y.node) (sym w) ∙ f) in
            let p0 : h < length z.definitions.items + length a.gates = p.0 in
            let p1 : rank a (length z.definitions.items) r h ≤ size
            (under r (operand_tree a.inputs (gate_trees a.inputs [] a.gates) x.right)) = p.1 in
            (omega arith, omega arith)
      ]

  nothing-past : (g h : ℕ) → length ps ≤ g → Uses ps g h → ⊥
  nothing-past g h le u =
      let e : part_at ps g ≡ (None, None) = ap parts_of (get_or_past ps g no_gate le) in
      elim u [
        | inl w ↦ let f : None ≡ Some h = sym (ap (λ (p : Option ℕ × Option ℕ). p.0) e) ∙ w in absurd (cc)
        | inr w ↦ let f : None ≡ Some h = sym (ap (λ (p : Option ℕ × Option ℕ). p.1) e) ∙ w in absurd (cc)
      ]

  used : (g h : ℕ) → Uses ps g h → (h < length ps) × (rank a (length z.definitions.items) r h < rank a
      (length z.definitions.items) r g)
  used g h u = elim (cases_lt g (length z.definitions.items)) [
    | inl lt ↦
        let e = ns.slots g lt in
        elim u [
          | inl w ↦ slot-used g h lt (look_at z.definitions.items g) refl
              (sym (ap (λ (p : Option ℕ × Option ℕ). p.0) e) ∙ w)
          | inr w ↦ let f : None ≡ Some h = sym (ap (λ (p : Option ℕ × Option ℕ). p.1) e) ∙ w in absurd (cc)
        ]
    | inr le ↦ elim (cases_lt g (length ps)) [
      | inr past ↦ absurd (nothing-past g h past u)
      | inl lt ↦
          let room : length ps ≡ length z.definitions.items + length a.gates = ns.room in
          let j : ℕ = g - length z.definitions.items in
          let back : length z.definitions.items + (g - length z.definitions.items) ≡ g = omega arith in
          let jl : g - length z.definitions.items < length a.gates = omega arith in
          let x : Gate = get_or a.gates (g - length z.definitions.items) no_gate in
          let e : slice_get a.gates (g - length z.definitions.items) ≡ Some
          (get_or a.gates (g - length z.definitions.items) no_gate) =
          slice_get-get_or a.gates (g - length z.definitions.items) no_gate jl in
          let p = ap (part_at ps) (sym back) ∙ ns.gates (g - length z.definitions.items)
          (get_or a.gates (g - length z.definitions.items) no_gate) e in
          subst (λ (n : ℕ). (h < length ps) × (rank a (length z.definitions.items) r h < rank a
          (length z.definitions.items) r n)) back (elim u [
            | inl w ↦ gate-part-used (g - length z.definitions.items) h jl
                (get_or a.gates (g - length z.definitions.items) no_gate) e
                (get_or a.gates (g - length z.definitions.items) no_gate).left (inl refl)
                (sym (ap (λ (p : Option ℕ × Option ℕ). p.0) p) ∙ w)
            | inr w ↦ gate-part-used (g - length z.definitions.items) h jl
                (get_or a.gates (g - length z.definitions.items) no_gate) e
                (get_or a.gates (g - length z.definitions.items) no_gate).right (inr refl)
                (sym (ap (λ (p : Option ℕ × Option ℕ). p.1) p) ∙ w)
          ])
    ]
  ]

  pub all-defined : AreDefined ps
  all-defined g h lt u = (used g h u).0

  falls-through : (g h : ℕ) → DependsOn ps g h → rank a (length z.definitions.items) r h < rank a
      (length z.definitions.items) r g
  falls-through g h (direct w u) = (used g w u).1
  falls-through g h (further j k d u) =
      let x = falls-through g j d in
      let y = (used j k u).1 in
      omega arith

  pub none-cyclic : (g : ℕ) → DependsOn ps g g → ⊥
  none-cyclic g d = let x = falls-through g g d in omega arith
