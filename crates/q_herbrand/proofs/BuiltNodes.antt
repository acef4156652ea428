-- Nodes built, one further.
use Rattle.std.proofs.Common.{◌≡◌, ℕ, ◌+◌, ◌-◌, ◌<◌, ◌≤◌, Bool, true, false, cond, ltb, List, [], ◌∷◌, ◌++◌, length, get_or, set, slice_get, take, inl, inr, arith, refl, sym, ap, ◌∙◌, subst, Option, Some, None, MatchOption}
use Rattle.std.proofs.lemmas.List.{length-set, get_or-set_same, get_or-set_other, get_or_past, take_more}
use Rattle.std.proofs.Math.Seq.{take-length}
use Rattle.std.proofs.lemmas.Bool.{cases_lt, cases_eq}
use Rattle.std.proofs.lemmas.Option.{get_or_from_slice_get, same_Some, slice_get_within}
use Rattle.q_logic.specs.Prelude.{Circuit, constant, GateNode, falsum, input_at, gate_at, Operand, Gate, IsThere, node_tree, operand_tree, gate_tree, gate_trees}
use Rattle.q_aig.specs.Prelude.{Net, IsLiteral, tree_at, operand_of, gate_of, IsNet, Keeps, Serves, IsConjunction}
use Rattle.q_aig.proofs.Substitutes.{serves-self, serves-same, serves-then, serves-conjunction}
use Rattle.q_aig.proofs.Nets.{IsThere-more, AreGates-at}
use Rattle.q_certificate.specs.Prelude.{look_at, AreLiterals, InputsAt, is_there, IsGrown, or_zero, copied_plain, copied_operand, tree_of_gate}
use Rattle.q_certificate.proofs.CircuitCopies.{copy-there, gate-is, or-zero-there}
use Rattle.q_certificate.proofs.LiteralRows.{operand-serves, literals-kept}
use Rattle.q_certificate.proofs.CircuitParts.{grown-none, grown-then, grown-by}
use Rattle.q_gates.specs.Uses.{part_at, Uses}
use Rattle.q_herbrand.specs.declared.slots.Slots.{Slots}
use Rattle.q_herbrand.specs.declared.building.Settled.{Settled}
use Rattle.q_herbrand.specs.Under.{under}
use Rattle.q_herbrand.specs.Slots.{AreSlots, AreOwned, IsResolved, owner_at}
use Rattle.q_herbrand.specs.Nodes.{node_part, filled_part}
use Rattle.q_herbrand.specs.Settled.{gates_among, row_literal, NodeStands, AreRows, AreBuilt, IsBuilt, IsCopied, IsSettled, IsOrdered}
use Rattle.q_herbrand.proofs.ReplacedInputs.{under-operand, serves-twice}
use Rattle.q_herbrand.proofs.GateCounts.{among-last, among-most}

-- An operand of the draft, by its node.
pub operand-stands : (draft now : Net) (m : Settled) (r : ℕ → Circuit) (k : ℕ) (o : Operand) →
    NodeStands draft now m r o.node →
    operand_of k ≡ copied_operand draft.inputs m.slots.items m.gates.items o →
    Serves (tree_at now k) (under r (operand_tree draft.inputs (gate_trees draft.inputs [] draft.gates) o))
operand-stands draft now m r k o h e =
    serves-then _ _ _ (operand-serves now (copied_plain draft.inputs m.slots.items m.gates.items o.node) k o.negated
    (under r (node_tree draft.inputs (gate_trees draft.inputs [] draft.gates) o.node)) e (by-node o.node h))
    (serves-same _ _ (sym (under-operand r o.negated
    (node_tree draft.inputs (gate_trees draft.inputs [] draft.gates) o.node))))
  where
    by-node : (x : GateNode) → NodeStands draft now m r x →
        Serves (tree_at now (copied_plain draft.inputs m.slots.items m.gates.items x))
        (under r (node_tree draft.inputs (gate_trees draft.inputs [] draft.gates) x))
    by-node falsum h = serves-self (constant false)
    by-node (input_at i) h = h
    by-node (gate_at g) h = h

pub gate-copied : (draft before after : Net) (m : Settled) (gate l r a b c : ℕ) → IsNet draft →
    slice_get draft.gates gate ≡ Some (gate_of (l, r)) →
    operand_of a ≡ copied_operand draft.inputs m.slots.items m.gates.items (operand_of l) →
    operand_of b ≡ copied_operand draft.inputs m.slots.items m.gates.items (operand_of r) →
    IsConjunction before after a b c → IsCopied draft before after m gate c
gate-copied draft before after m gate l r a b c net e ea eb h = record {
  grown = grown-by before after a b c h;
  there = h.there;
  serves = λ q stands.
      let s = stands (gate_of (l, r)) e in
      let t : tree_of_gate draft gate ≡ gate_tree draft.inputs (gate_trees draft.inputs [] draft.gates)
      (gate_of (l, r)) = gate-is draft gate (gate_of (l, r)) net.ordered e in
      serves-then _ _ _ h.serves (serves-then _ _ _ (serves-conjunction _ _ _ _
      (operand-stands draft before m q a (operand_of l) s.0 ea)
      (operand-stands draft before m q b (operand_of r) s.1 eb))
      (serves-same _ _ (sym (ap (under q) t))));
}

set-literals : (n : Net) (row row2 : List (Option ℕ)) (s l : ℕ) → row2 ≡ set row s (Some l) → AreLiterals n row →
    IsLiteral n l → AreLiterals n row2
set-literals n row row2 s l e li h x k q = elim (cases_eq x s) [
  | inl same ↦ elim (cases_lt s (length row)) [
    | inl lt ↦
        let w : look_at row2 x ≡ Some l = ap (λ (xs : List (Option ℕ)). look_at xs x) e
        ∙ ap (look_at (set row s (Some l))) same ∙ get_or-set_same row s (Some l) None lt in
        subst (IsLiteral n) (same_Some l k (sym w ∙ q)) h
    | inr le ↦
        let w : look_at row2 x ≡ None = ap (λ (xs : List (Option ℕ)). look_at xs x) e
        ∙ get_or_past (set row s (Some l)) x None (let z = length-set row s (Some l) in omega arith) in
        absurd (let y : None ≡ Some k = sym w ∙ q in cc)
  ]
  | inr other ↦
      let w : look_at row2 x ≡ look_at row x = ap (λ (xs : List (Option ℕ)). look_at xs x) e
      ∙ get_or-set_other row s x (Some l) None other in
      li x k (sym w ∙ q)
]

module _ (draft now : Net) (z : Slots) (ins : List (Option ℕ)) (m m2 : Settled) (node lit : ℕ) (s : AreSlots draft
    z) (owned : AreOwned draft.inputs ins z) (li : AreLiterals now ins) (at : InputsAt now ins
    (λ x. is_there (look_at ins x))) (rows : AreRows draft now z m) (lt : node < length z.definitions.items) (is :
    MatchOption (look_at z.definitions.items node) (lit ≡ row_literal ins (owner_at z.owners.items node))
    (λ l. operand_of lit ≡ copied_operand draft.inputs m.slots.items m.gates.items (operand_of l))) (es :
    m2.slots.items ≡ set m.slots.items node (Some lit)) (eg : m2.gates.items ≡ m.gates.items) where
  here : look_at m2.slots.items node ≡ Some lit
  here =
      let room : length m.slots.items ≡ length z.definitions.items = rows.slots_room in
      ap (λ (xs : List (Option ℕ)). look_at xs node) es
      ∙ get_or-set_same m.slots.items node (Some lit) None (omega arith)

  lit-there : (o : Option ℕ) → look_at z.definitions.items node ≡ o →
      MatchOption o (lit ≡ row_literal ins (owner_at z.owners.items node))
      (λ l. operand_of lit ≡ copied_operand draft.inputs m.slots.items m.gates.items (operand_of l)) →
      IsLiteral now lit
  lit-there None e h =
      subst (IsLiteral now) (sym h) (or-zero-there now (look_at ins (owner_at z.owners.items node))
      (li (owner_at z.owners.items node)))
  lit-there (Some l) e h =
      copy-there draft.inputs now m.slots.items m.gates.items lit (operand_of l) h rows.slots rows.gates

  slot-stands : (r : ℕ → Circuit) → IsResolved draft z r →
      ((l : ℕ) → look_at z.definitions.items node ≡ Some l → NodeStands draft now m r (operand_of l).node) →
      (o : Option ℕ) → look_at z.definitions.items node ≡ o →
      MatchOption o (lit ≡ row_literal ins (owner_at z.owners.items node))
      (λ l. operand_of lit ≡ copied_operand draft.inputs m.slots.items m.gates.items (operand_of l)) → (i : ℕ) →
      i < length draft.inputs → get_or draft.inputs i 0 ≡ node → Serves (tree_at now lit) (r node)
  slot-stands r q used None e h i il ei =
      let o : is_there (look_at ins (owner_at z.owners.items node)) ≡ true =
      subst (λ (x : ℕ). is_there (look_at ins (owner_at z.owners.items x)) ≡ true) ei (owned i il) in
      let a = at (owner_at z.owners.items node) o in
      let l : lit ≡ a.0 = h ∙ ap or_zero a.1 in
      serves-same _ _ (ap (tree_at now) l ∙ a.2 ∙ sym (q.empty node lt e))
  slot-stands r q used (Some l) e h i il ei =
      serves-then _ _ _ (operand-stands draft now m r lit (operand_of l) (used l e) h)
      (serves-then _ _ _ (serves-twice (under r (tree_at draft l))) (serves-same _ _ (sym (q.filled node l e))))

  pub slot-built : IsBuilt draft now now z m m2 node
  slot-built = record {
    grown =
        let b : ltb node (length z.definitions.items) ≡ true = grind arith in
        subst (IsGrown now now) (sym (ap (λ (t : Bool). cond t 0 1) b)) (grown-none now);
    rows = record {
      slots_room =
          let room : length m.slots.items ≡ length z.definitions.items = rows.slots_room in
          ap length es ∙ length-set m.slots.items node (Some lit) ∙ room;
      gates_room = ap length eg ∙ rows.gates_room;
      slots = set-literals now m.slots.items m2.slots.items node lit es rows.slots
          (lit-there (look_at z.definitions.items node) refl is);
      gates = λ g. subst (λ (xs : List ℕ). IsLiteral now (get_or xs g 0)) (sym eg) (rows.gates g);
    };
    other_slots = λ x n. ap (λ (xs : List (Option ℕ)). look_at xs x) es
        ∙ get_or-set_other m.slots.items node x (Some lit) None n;
    other_gates = λ g n. ap (λ (xs : List ℕ). get_or xs g 0) eg;
    slot = λ r q l used i il ei. subst (λ (o : Option ℕ). Serves (tree_at now (or_zero o)) (r node)) (sym here)
        (slot-stands r q used (look_at z.definitions.items node) refl is i il ei);
    gate = λ r g e used. absurd (omega arith);
  }

pub gate-built : (draft before after : Net) (z : Slots) (m m2 : Settled) (node gate lit : ℕ) →
    AreRows draft before z m → length z.definitions.items ≤ node → gate ≡ node - length z.definitions.items →
    gate < length draft.gates → IsCopied draft before after m gate lit → m2.slots.items ≡ m.slots.items →
    m2.gates.items ≡ set m.gates.items gate lit → IsBuilt draft before after z m m2 node
gate-built draft before after z m m2 node gate lit rows le is lt c es eg =
    let room : length m.gates.items ≡ length draft.gates = rows.gates_room in
    let back : length z.definitions.items + gate ≡ node = omega arith in
    let here : get_or m2.gates.items gate 0 ≡ lit = ap (λ (xs : List ℕ). get_or xs gate 0) eg
    ∙ get_or-set_same m.gates.items gate lit 0 (omega arith) in
    record {
      grown =
          let b : ltb node (length z.definitions.items) ≡ false = grind arith in
          subst (IsGrown before after) (sym (ap (λ (t : Bool). cond t 0 1) b)) c.grown;
      rows = record {
        slots_room = ap length es ∙ rows.slots_room;
        gates_room = ap length eg ∙ length-set m.gates.items gate lit ∙ room;
        slots = subst (AreLiterals after) (sym es) (literals-kept before after m.slots.items c.grown.kept rows.slots);
        gates = λ g. elim (cases_eq g gate) [
          | inl same ↦ subst (IsLiteral after) (sym (ap (λ (j : ℕ). get_or m2.gates.items j 0) same ∙ here)) c.there
          | inr other ↦ subst (IsLiteral after) (sym (ap (λ (xs : List ℕ). get_or xs g 0) eg
              ∙ get_or-set_other m.gates.items gate g lit 0 other))
              ((c.grown.kept (get_or m.gates.items g 0) (rows.gates g)).0)
        ];
      };
      other_slots = λ x n. ap (λ (xs : List (Option ℕ)). look_at xs x) es;
      other_gates = λ g n. ap (λ (xs : List ℕ). get_or xs g 0) eg
          ∙ get_or-set_other m.gates.items gate g lit 0 (λ e. n (omega arith));
      slot = λ r q l used. absurd (omega arith);
      gate = λ r g e used.
          let same : gate ≡ g = omega arith in
          subst (λ (j : ℕ). Serves (tree_at after (get_or m2.gates.items j 0)) (under r (tree_of_gate draft j))) same
          (subst (λ (l : ℕ). Serves (tree_at after l) (under r (tree_of_gate draft gate))) (sym here)
          (c.serves r (λ x w. used x (ap (slice_get draft.gates) (sym same) ∙ w))));
    }

-- In an order of all nodes, what a node uses is built before it.
module _ (draft base now : Net) (z : Slots) (m : Settled) (order : List ℕ) (n : ℕ) (s : AreSlots draft z) (b :
    AreBuilt draft base now z m order n) (r : ℕ → Circuit) (q : IsResolved draft z r) where
  pub node-stands : (x : GateNode) → IsThere (length draft.inputs) (length draft.gates) x →
      ((h : ℕ) → node_part (length z.definitions.items) draft.inputs x ≡ Some h →
      (j : ℕ) × (j < n) × (get_or order j 0 ≡ h)) → NodeStands draft now m r x
  node-stands falsum t u = tt
  node-stands (input_at i) t u =
      let j = u (get_or draft.inputs i 0) refl in
      b.slots r q j.0 (get_or draft.inputs i 0) j.1 j.2 (s.names i t) i t refl
  node-stands (gate_at g) t u =
      let j = u (length z.definitions.items + g) refl in
      b.gates r q j.0 g j.1 j.2

pub built-none : (draft base : Net) (z : Slots) (m : Settled) (order : List ℕ) →
    length m.slots.items ≡ length z.definitions.items → length m.gates.items ≡ length draft.gates →
    ((x : ℕ) → look_at m.slots.items x ≡ None) → ((g : ℕ) → get_or m.gates.items g 0 ≡ 0) →
    AreBuilt draft base base z m order 0
built-none draft base z m order es eg ns ng = record {
  grown = grown-none base;
  rows = record {
    slots_room = es;
    gates_room = eg;
    slots = λ x l e. absurd (let f : None ≡ Some l = sym (ns x) ∙ e in cc);
    gates = λ g. subst (IsLiteral base) (sym (ng g)) tt;
  };
  slots = λ r q i x lt. absurd (omega arith);
  gates = λ r q i g lt. absurd (omega arith);
}

stands-later : (a b : Net) (k l : ℕ) (t : Circuit) → Keeps a b → IsLiteral a k → l ≡ k → Serves (tree_at a k) t →
    Serves (tree_at b l) t
stands-later a b k l t kept h e f =
    subst (λ (x : ℕ). Serves (tree_at b x) t) (sym e) (serves-then _ _ _ (serves-same _ _ (kept k h).1) f)

module _ (draft base now new : Net) (z : Slots) (m m2 : Settled) (order : List ℕ) (n : ℕ) (net : IsNet draft) (s :
    AreSlots draft z) (o : IsOrdered draft z order) (lt : n < length order) (b : AreBuilt draft base now z m order
    n) (d : IsBuilt draft now new z m m2 (get_or order n 0)) where
  before : (h : ℕ) → Uses o.nodes (get_or order n 0) h → (j : ℕ) × (j < n) × (get_or order j 0 ≡ h)
  before h u = o.full.sorted.earlier n h lt u

  slot-before : (r : ℕ → Circuit) → IsResolved draft z r → get_or order n 0 < length z.definitions.items →
      (l : ℕ) → look_at z.definitions.items (get_or order n 0) ≡ Some l →
      NodeStands draft now m r (operand_of l).node
  slot-before r q low l e = node-stands draft base now z m order n s b r q (operand_of l).node
      (s.literals (get_or order n 0) l e) (λ h f.
      let p = o.are.slots (get_or order n 0) low in
      before h (inl (ap (λ (p : Option ℕ × Option ℕ). p.0) p
      ∙ ap (filled_part (length z.definitions.items) draft.inputs) e ∙ f)))

  gate-before : (r : ℕ → Circuit) → IsResolved draft z r → (g : ℕ) →
      get_or order n 0 ≡ length z.definitions.items + g → (x : Gate) → slice_get draft.gates g ≡ Some x →
      NodeStands draft now m r x.left.node × NodeStands draft now m r x.right.node
  gate-before r q g e x w =
      let gl : g < length draft.gates = slice_get_within draft.gates g x w in
      let at : get_or draft.gates g x ≡ x = get_or_from_slice_get draft.gates g x x w in
      let both = AreGates-at (length draft.inputs) 0 draft.gates g x net.ordered gl in
      let tl : IsThere (length draft.inputs) (0 + g) x.left.node =
      subst (λ (y : Gate). IsThere (length draft.inputs) (0 + g) y.left.node) at both.0 in
      let tr : IsThere (length draft.inputs) (0 + g) x.right.node =
      subst (λ (y : Gate). IsThere (length draft.inputs) (0 + g) y.right.node) at both.1 in
      let p = ap (part_at o.nodes) e ∙ o.are.gates g x w in (
        node-stands draft base now z m order n s b r q x.left.node
            (IsThere-more (length draft.inputs) (0 + g) (length draft.inputs) (length draft.gates) x.left.node tl
            (omega arith) (omega arith)) (λ h f. before h (inl (ap (λ (p : Option ℕ × Option ℕ). p.0) p ∙ f))),
        node-stands draft base now z m order n s b r q x.right.node
            (IsThere-more (length draft.inputs) (0 + g) (length draft.inputs) (length draft.gates) x.right.node tr
            (omega arith) (omega arith)) (λ h f. before h (inr (ap (λ (p : Option ℕ × Option ℕ). p.1) p ∙ f))),
      )

  once : (i : ℕ) → i < n → get_or order i 0 ≡ get_or order n 0 → ⊥
  once i il e = let z : i ≡ n = o.full.sorted.once i n (omega arith) lt e in omega arith

  pub built-more : AreBuilt draft base new z m2 order (n + 1)
  built-more = record {
    grown = grown-then base now new (gates_among (length z.definitions.items) (take n order))
        (cond (ltb (get_or order n 0) (length z.definitions.items)) 0 1)
        (gates_among (length z.definitions.items) (take (n + 1) order)) b.grown d.grown
        (let e : gates_among (length z.definitions.items) (take (n + 1) order) ≡ gates_among
        (length z.definitions.items) (take n order ++ get_or order n 0 ∷ []) =
        ap (gates_among (length z.definitions.items)) (take_more order n 0 lt) in
        let f = among-last (length z.definitions.items) (take n order) (get_or order n 0) in omega arith);
    rows = d.rows;
    slots = λ r q i x il e low j jl ej. elim (cases_lt i n) [
      | inl h ↦ stands-later now new (row_literal m.slots.items x) (row_literal m2.slots.items x) (r x)
          d.grown.kept (or-zero-there now (look_at m.slots.items x) (b.rows.slots x))
          (ap or_zero (d.other_slots x (λ w. once i h (e ∙ w)))) (b.slots r q i x h e low j jl ej)
      | inr h ↦
          let w : i ≡ n = omega arith in
          let v : get_or order n 0 ≡ x = ap (λ (k : ℕ). get_or order k 0) (sym w) ∙ e in
          let low2 : get_or order n 0 < length z.definitions.items = omega arith in
          subst (λ (y : ℕ). Serves (tree_at new (row_literal m2.slots.items y)) (r y)) v
          (d.slot r q low2 (slot-before r q low2) j jl (ej ∙ sym v))
    ];
    gates = λ r q i g il e. elim (cases_lt i n) [
      | inl h ↦ stands-later now new (get_or m.gates.items g 0) (get_or m2.gates.items g 0)
          (under r (tree_of_gate draft g)) d.grown.kept (b.rows.gates g)
          (d.other_gates g (λ w. once i h (e ∙ w))) (b.gates r q i g h e)
      | inr h ↦
          let w : i ≡ n = omega arith in
          let v : get_or order n 0 ≡ length z.definitions.items + g = ap (λ (k : ℕ). get_or order k 0) (sym w) ∙ e in
          d.gate r g v (gate-before r q g v)
    ];
  }

pub settled : (draft base now : Net) (z : Slots) (m : Settled) (order : List ℕ) → AreSlots draft z →
    IsOrdered draft z order → AreBuilt draft base now z m order (length order) → IsSettled draft base now z m
settled draft base now z m order s o b = record {
  inputs = b.grown.inputs;
  gates =
      let whole : gates_among (length z.definitions.items) (take (length order) order) ≡ gates_among
      (length z.definitions.items) order = ap (gates_among (length z.definitions.items)) (take-length order) in
      let room : length o.nodes ≡ length z.definitions.items + length draft.gates = o.are.room in
      let most = among-most (length z.definitions.items) (length draft.gates) order
      (λ i lt. let t = o.full.sorted.there i lt in omega arith) o.full.sorted.once in
      let g : length now.gates ≤ length base.gates + gates_among (length z.definitions.items)
      (take (length order) order) = b.grown.gates in
      omega arith;
  rows = b.rows;
  serves = λ r q k l t e. operand-stands draft now m r k (operand_of l)
      (node-stands draft base now z m order (length order) s b r q (operand_of l).node t (λ h f.
      let j = o.full.all h (in-order h (operand_of l).node t f) in (j.0, j.1, j.2))) e;
}
  where
    in-order : (h : ℕ) (x : GateNode) → IsThere (length draft.inputs) (length draft.gates) x →
        node_part (length z.definitions.items) draft.inputs x ≡ Some h → h < length o.nodes
    in-order h falsum t f = absurd (cc)
    in-order h (input_at i) t f =
        let e : get_or draft.inputs i 0 ≡ h = same_Some (get_or draft.inputs i 0) h f in
        let lt = s.names i t in
        let room : length o.nodes ≡ length z.definitions.items + length draft.gates = o.are.room in
        omega arith
    in-order h (gate_at g) t f =
        let e : length z.definitions.items + g ≡ h = same_Some (length z.definitions.items + g) h f in
        let room : length o.nodes ≡ length z.definitions.items + length draft.gates = o.are.room in
        let lt : g < length draft.gates = t in
        omega arith
