-- The trees of a file's circuits, whatever order its gates are put into.
use Rattle.std.proofs.Common.{◌≡◌, ◌⊎◌, ℕ, zero, suc, ◌+◌, ◌<◌, ◌≤◌, Bool, true, false, cond, eqb, List, [], ◌∷◌, ◌++◌, length, map, get_or, refl, sym, ap, ◌∙◌, subst, inl, inr, arith, Option, Some, None, Result, Ok, Err}
use Rattle.std.proofs.lemmas.List.{length_push, get_or_push, get_or_append_left, get_or-map, length-map, append-nil, append_assoc, get_or_past}
use Rattle.std.proofs.lemmas.Bool.{cases_lt}
use Rattle.q_logic.specs.Prelude.{Circuit, GateNode, falsum, input_at, gate_at, Operand, Gate, NamedOutput, CertificateView, node_tree, operand_tree, gate_tree, gate_trees, output_named, tree_of_some}
use Rattle.q_logic.proofs.CertificateTrees.{length-gate_trees}
use Rattle.q_aig.proofs.Nets.{trees-front}
use Rattle.q_gates.specs.Gates.{no_gate}
use Rattle.q_gates.proofs.GateWalk.{sorted-acyclic}
use Rattle.q_aiger.specs.Cones.{place_in}
use Rattle.q_gates.specs.Uses.{Parts, part_of, parts_of, part_at, Uses, DependsOn, direct, further, IsOrder, IsFullOrder}
use Rattle.q_aiger.specs.Writing.{names_of}
use Rattle.q_aiger.specs.Circuits.{parse, moved_node, moved, moved_gate, moved_output, sorted_circuits, AreCircuits, Offence, refused, cyclic}
use Rattle.q_aiger.specs.Alike.{AreAlike, IsNoCircuits}
use Rattle.q_aiger.proofs.GatePlaces.{place-once}

-- a gate that the node is stands before the place n
abbrev Early : ℕ → GateNode → Type 0
Early n x = (h : ℕ) → part_of x ≡ Some h → h < n

abbrev EarlyGate : ℕ → Gate → Type 0
EarlyGate n g = Early n g.left.node × Early n g.right.node

node-front : (ins : List ℕ) (ts later : List Circuit) (x : GateNode) → Early (length ts) x → node_tree ins (ts ++ later) x ≡ node_tree ins ts x
node-front ins ts later falsum e = refl
node-front ins ts later (input_at i) e = refl
node-front ins ts later (gate_at g) e = get_or_append_left ts later (Circuit.constant false) g (e g refl)

operand-front : (ins : List ℕ) (ts : List Circuit) (gs : List Gate) (o : Operand) → Early (length ts) o.node → operand_tree ins (gate_trees ins ts gs) o ≡ operand_tree ins ts o
operand-front ins ts gs o e =
    let r = trees-front ins ts gs in
    ap (λ (ys : List Circuit). operand_tree ins ys o) r.1 ∙ ap (λ (t : Circuit). cond o.negated (Circuit.inverter t) t) (node-front ins ts r.0 o.node e)

-- the tree of the gate at a place, where gates use earlier gates alone
tree-at : (ins : List ℕ) (ts : List Circuit) (gs : List Gate) (k : ℕ) (d : Gate) → ((j : ℕ) → j < length gs → EarlyGate (length ts + j) (get_or gs j d)) → k < length gs →
    get_or (gate_trees ins ts gs) (length ts + k) (Circuit.constant false) ≡ gate_tree ins (gate_trees ins ts gs) (get_or gs k d)
tree-at ins ts [] k d h lt = absurd (omega arith)
tree-at ins ts (g ∷ gs) zero d h lt =
    let t : Circuit = gate_tree ins ts g in
    let f : Circuit = Circuit.constant false in
    let r = trees-front ins (ts ++ t ∷ []) gs in
    let len : length (ts ++ t ∷ []) ≡ length ts + 1 = length_push ts t in
    let z : length ts + 0 ≡ length ts = omega arith in
    let e : EarlyGate (length ts) g = subst (λ (n : ℕ). EarlyGate n g) z (h 0 lt) in
    let a : get_or (gate_trees ins (ts ++ t ∷ []) gs) (length ts) f ≡ get_or ((ts ++ t ∷ []) ++ r.0) (length ts) f = ap (λ (ys : List Circuit). get_or ys (length ts) f) r.1 in
    let b : get_or ((ts ++ t ∷ []) ++ r.0) (length ts) f ≡ get_or (ts ++ t ∷ []) (length ts) f = get_or_append_left (ts ++ t ∷ []) r.0 f (length ts) (omega arith) in
    let c : get_or (ts ++ t ∷ []) (length ts) f ≡ t = get_or_push ts t f (length ts) refl in
    let l : operand_tree ins (gate_trees ins ts (g ∷ gs)) g.left ≡ operand_tree ins ts g.left = operand-front ins ts (g ∷ gs) g.left e.0 in
    let m : operand_tree ins (gate_trees ins ts (g ∷ gs)) g.right ≡ operand_tree ins ts g.right = operand-front ins ts (g ∷ gs) g.right e.1 in
    let both : gate_tree ins (gate_trees ins ts (g ∷ gs)) g ≡ t = cc in
    rw z (a ∙ b ∙ c ∙ sym both)
tree-at ins ts (g ∷ gs) (suc k) d h lt =
    let t : Circuit = gate_tree ins ts g in
    let len : length (ts ++ t ∷ []) ≡ length ts + 1 = length_push ts t in
    let rest : (j : ℕ) → j < length gs → EarlyGate (length (ts ++ t ∷ []) + j) (get_or gs j d) = λ j lj.
    subst (λ (n : ℕ). EarlyGate n (get_or gs j d)) (let q : length ts + suc j ≡ length (ts ++ t ∷ []) + j = omega arith in q) (h (suc j) (omega arith)) in
    let z : length ts + suc k ≡ length (ts ++ t ∷ []) + k = omega arith in
    rw z (tree-at ins (ts ++ t ∷ []) gs k d rest (omega arith))

-- places in an order
place-found : (ps : Parts) (order : List ℕ) (i h : ℕ) → IsOrder ps order → i < length order → get_or order i 0 ≡ h → place_in order h ≡ i
place-found ps order i h o lt e = ap (place_in order) (sym e) ∙ place-once order i o.once lt

place-none : (xs : List ℕ) (x : ℕ) → ((i : ℕ) → i < length xs → get_or xs i 0 ≡ x → ⊥) → place_in xs x ≡ length xs
place-none [] x n = refl
place-none (y ∷ ys) x n = go (eqb y x) refl (place-none ys x (λ i lt q. n (suc i) (omega arith) q))
  where
    go : (b : Bool) → eqb y x ≡ b → place_in ys x ≡ length ys → cond b 0 (place_in ys x + 1) ≡ length (y ∷ ys)
    go true e r = absurd (n 0 (omega arith) (grind arith))
    go false e r = omega arith

-- a gate in a full order uses what stands before it there
used-earlier : (ps : Parts) (order : List ℕ) (k : ℕ) → IsOrder ps order → k < length order → (h : ℕ) → Uses ps (get_or order k 0) h → place_in order h < k
used-earlier ps order k o lt h u =
    let r = o.earlier k h lt u in
    let l : r.0 < k = r.1 in
    let e : place_in order h ≡ r.0 = place-found ps order r.0 h o (omega arith) r.2 in
    omega arith

moved-part : (order : List ℕ) (x : GateNode) (h : ℕ) → part_of (moved_node order x) ≡ Some h → (g : ℕ) × (part_of x ≡ Some g) × (place_in order g ≡ h)
moved-part order falsum h e = absurd (cc)
moved-part order (input_at i) h e = absurd (cc)
moved-part order (gate_at g) h e = (g, refl, cc)

moved-early : (ps : Parts) (order : List ℕ) (k : ℕ) → IsOrder ps order → k < length order → EarlyGate k (moved_gate order (get_or ps (get_or order k 0) no_gate))
moved-early ps order k o lt = (
  (λ h e. let r = moved-part order (get_or ps (get_or order k 0) no_gate).left.node h e in
      subst (λ (n : ℕ). n < k) r.2 (used-earlier ps order k o lt r.0 (inl r.1))),
  (λ h e. let r = moved-part order (get_or ps (get_or order k 0) no_gate).right.node h e in
      subst (λ (n : ℕ). n < k) r.2 (used-earlier ps order k o lt r.0 (inr r.1))),
)

-- the gates of a file in an order, and their trees
abbrev placed : Parts → List ℕ → ℕ → Gate
placed ps order g = moved_gate order (get_or ps g no_gate)

abbrev trees_in : List ℕ → Parts → List ℕ → List Circuit
trees_in ins ps order = gate_trees ins [] (map (placed ps order) order)

length-trees_in : (ins : List ℕ) (ps : Parts) (order : List ℕ) → length (trees_in ins ps order) ≡ length order
length-trees_in ins ps order =
    let a : length (trees_in ins ps order) ≡ 0 + length (map (placed ps order) order) = length-gate_trees ins [] (map (placed ps order) order) in
    let b : length (map (placed ps order) order) ≡ length order = length-map order (placed ps order) in
    omega arith

tree-placed : (ins : List ℕ) (ps : Parts) (order : List ℕ) (k : ℕ) → IsOrder ps order → k < length order →
    get_or (trees_in ins ps order) k (Circuit.constant false) ≡ gate_tree ins (trees_in ins ps order) (placed ps order (get_or order k 0))
tree-placed ins ps order k o lt =
    let gs : List Gate = map (placed ps order) order in
    let len : length (map (placed ps order) order) ≡ length order = length-map order (placed ps order) in
    let at : (j : ℕ) → j < length order → get_or (map (placed ps order) order) j no_gate ≡ placed ps order (get_or order j 0) = λ j lj. get_or-map (placed ps order) order j 0 no_gate lj in
    let early : (j : ℕ) → j < length (map (placed ps order) order) → EarlyGate (0 + j) (get_or (map (placed ps order) order) j no_gate) = λ j lj.
    let lo : j < length order = omega arith in
    let z : j ≡ 0 + j = omega arith in
    subst (λ (n : ℕ). EarlyGate n (get_or (map (placed ps order) order) j no_gate)) z (subst (EarlyGate j) (sym (at j lo)) (moved-early ps order j o lo)) in
    let t : get_or (trees_in ins ps order) (0 + k) (Circuit.constant false) ≡ gate_tree ins (trees_in ins ps order) (get_or (map (placed ps order) order) k no_gate) = tree-at ins [] (map (placed ps order) order) k no_gate early (omega arith) in
    let z : 0 + k ≡ k = omega arith in
    ap (λ (n : ℕ). get_or (trees_in ins ps order) n (Circuit.constant false)) (sym z) ∙ (t ∙ ap (gate_tree ins (trees_in ins ps order)) (at k lt))

-- two orders of the same gates
module _ (ins : List ℕ) (ps : Parts) (o1 o2 : List ℕ) (f1 : IsFullOrder ps o1) (f2 : IsFullOrder ps o2) where
  abbrev t1 : List Circuit
  t1 = trees_in ins ps o1

  abbrev t2 : List Circuit
  t2 = trees_in ins ps o2

  abbrev Same : ℕ → Type 0
  Same h = get_or t1 (place_in o1 h) (Circuit.constant false) ≡ get_or t2 (place_in o2 h) (Circuit.constant false)

  node-alike : (x : GateNode) → ((h : ℕ) → part_of x ≡ Some h → Same h) → node_tree ins t1 (moved_node o1 x) ≡ node_tree ins t2 (moved_node o2 x)
  node-alike falsum s = refl
  node-alike (input_at i) s = refl
  node-alike (gate_at h) s = s h refl

  operand-alike : (o : Operand) → ((h : ℕ) → part_of o.node ≡ Some h → Same h) → operand_tree ins t1 (moved o1 o) ≡ operand_tree ins t2 (moved o2 o)
  operand-alike o s = ap (λ (t : Circuit). cond o.negated (Circuit.inverter t) t) (node-alike o.node s)

  -- by the first places of the first order
  places-alike : (n k1 k2 : ℕ) → k1 < n → k1 < length o1 → k2 < length o2 → get_or o1 k1 0 ≡ get_or o2 k2 0 → get_or t1 k1 (Circuit.constant false) ≡ get_or t2 k2 (Circuit.constant false)
  places-alike zero k1 k2 a l1 l2 e = absurd (omega arith)
  places-alike (suc n) k1 k2 a l1 l2 e =
      let earlier : (h : ℕ) → Uses ps (get_or o1 k1 0) h → Same h = λ h u.
      let r1 = f1.sorted.earlier k1 h l1 u in
      let r2 = f2.sorted.earlier k2 h l2 (subst (λ (g : ℕ). Uses ps g h) e u) in
      let b1 : r1.0 < k1 = r1.1 in
      let b2 : r2.0 < k2 = r2.1 in
      let p1 : place_in o1 h ≡ r1.0 = place-found ps o1 r1.0 h f1.sorted (omega arith) r1.2 in
      let p2 : place_in o2 h ≡ r2.0 = place-found ps o2 r2.0 h f2.sorted (omega arith) r2.2 in
      let s : get_or t1 r1.0 (Circuit.constant false) ≡ get_or t2 r2.0 (Circuit.constant false) = places-alike n r1.0 r2.0 (omega arith) (omega arith) (omega arith) (r1.2 ∙ sym r2.2) in
      ap (λ (m : ℕ). get_or t1 m (Circuit.constant false)) p1 ∙ (s ∙ ap (λ (m : ℕ). get_or t2 m (Circuit.constant false)) (sym p2)) in
      let g : Gate = get_or ps (get_or o1 k1 0) no_gate in
      let l : operand_tree ins t1 (moved o1 (get_or ps (get_or o1 k1 0) no_gate).left) ≡ operand_tree ins t2 (moved o2 (get_or ps (get_or o1 k1 0) no_gate).left) = operand-alike (get_or ps (get_or o1 k1 0) no_gate).left (λ h q. earlier h (inl q)) in
      let m : operand_tree ins t1 (moved o1 (get_or ps (get_or o1 k1 0) no_gate).right) ≡ operand_tree ins t2 (moved o2 (get_or ps (get_or o1 k1 0) no_gate).right) = operand-alike (get_or ps (get_or o1 k1 0) no_gate).right (λ h q. earlier h (inr q)) in
      let both : gate_tree ins t1 (placed ps o1 (get_or o1 k1 0)) ≡ gate_tree ins t2 (placed ps o2 (get_or o1 k1 0)) = cc in
      tree-placed ins ps o1 k1 f1.sorted l1 ∙ (both ∙ (ap (λ (h : ℕ). gate_tree ins t2 (placed ps o2 h)) e ∙ sym (tree-placed ins ps o2 k2 f2.sorted l2)))

  past : (order : List ℕ) (h : ℕ) → IsFullOrder ps order → length ps ≤ h → get_or (trees_in ins ps order) (place_in order h) (Circuit.constant false) ≡ Circuit.constant false
  past order h f le =
      let none : place_in order h ≡ length order = place-none order h (λ i lt e. let b : get_or order i 0 < length ps = f.sorted.there i lt in omega arith) in
      let len : length (trees_in ins ps order) ≡ length order = length-trees_in ins ps order in
      get_or_past (trees_in ins ps order) (place_in order h) (Circuit.constant false) (omega arith)

  -- each gate has the same tree in both orders
  gates-alike : (h : ℕ) → Same h
  gates-alike h = go (cases_lt h (length ps))
    where
      go : (h < length ps) ⊎ (length ps ≤ h) → Same h
      go (inl lt) =
          let r1 = f1.all h lt in
          let r2 = f2.all h lt in
          let p1 : place_in o1 h ≡ r1.0 = place-found ps o1 r1.0 h f1.sorted r1.1 r1.2 in
          let p2 : place_in o2 h ≡ r2.0 = place-found ps o2 r2.0 h f2.sorted r2.1 r2.2 in
          let s : get_or t1 r1.0 (Circuit.constant false) ≡ get_or t2 r2.0 (Circuit.constant false) = places-alike (suc r1.0) r1.0 r2.0 (omega arith) r1.1 r2.1 (r1.2 ∙ sym r2.2) in
          ap (λ (m : ℕ). get_or t1 m (Circuit.constant false)) p1 ∙ (s ∙ ap (λ (m : ℕ). get_or t2 m (Circuit.constant false)) (sym p2))
      go (inr le) = past o1 h f1 le ∙ sym (past o2 h f2 le)

  outputs-alike : (x : ℕ) (os ps1 ps2 : List NamedOutput) → tree_of_some (record { inputs = ins; gates = map (placed ps o1) o1; outputs = ps1 }) (output_named x (map (moved_output o1) os)) ≡ tree_of_some (record { inputs = ins; gates = map (placed ps o2) o2; outputs = ps2 }) (output_named x (map (moved_output o2) os))
  outputs-alike x [] ps1 ps2 = refl
  outputs-alike x (o ∷ os) ps1 ps2 = go (eqb o.name x) (outputs-alike x os ps1 ps2)
    where
      go : (b : Bool) →
          tree_of_some (record { inputs = ins; gates = map (placed ps o1) o1; outputs = ps1 }) (output_named x (map (moved_output o1) os)) ≡ tree_of_some (record { inputs = ins; gates = map (placed ps o2) o2; outputs = ps2 }) (output_named x (map (moved_output o2) os)) →
          tree_of_some (record { inputs = ins; gates = map (placed ps o1) o1; outputs = ps1 }) (cond b (Some (moved o1 o.operand)) (output_named x (map (moved_output o1) os)))
          ≡ tree_of_some (record { inputs = ins; gates = map (placed ps o2) o2; outputs = ps2 }) (cond b (Some (moved o2 o.operand)) (output_named x (map (moved_output o2) os)))
      go true r = ap Some (operand-alike o.operand (λ h q. gates-alike h))
      go false r = r

names-moved : (order : List ℕ) (os : List NamedOutput) → names_of (map (moved_output order) os) ≡ names_of os
names-moved order [] = refl
names-moved order (o ∷ os) = ap (λ (xs : List ℕ). o.name ∷ xs) (names-moved order os)

pub sorted-alike : (w : CertificateView) (o1 o2 : List ℕ) → IsFullOrder w.gates o1 → IsFullOrder w.gates o2 → AreAlike (sorted_circuits o1 w) (sorted_circuits o2 w)
sorted-alike w o1 o2 f1 f2 = record {
  inputs = refl;
  names = names-moved o1 w.outputs ∙ sym (names-moved o2 w.outputs);
  trees = λ x. outputs-alike w.inputs w.gates o1 o2 f1 f2 x w.outputs (map (moved_output o1) w.outputs) (map (moved_output o2) w.outputs);
}

one-parse : (r : Result CertificateView (ℕ × ℕ)) (v w : CertificateView) → r ≡ Ok v → r ≡ Ok w → v ≡ w
one-parse r v w p q = cc

no-parse : (r : Result CertificateView (ℕ × ℕ)) (a : ℕ × ℕ) (w : CertificateView) → r ≡ Err a → r ≡ Ok w → ⊥
no-parse r a w p q = cc

-- whatever circuits a file is said to hold, they are alike
pub one-meaning : (bytes : List ℕ) (c d : CertificateView) → AreCircuits bytes c → AreCircuits bytes d → AreAlike c d
one-meaning bytes c d p q =
    let same : q.written ≡ p.written = one-parse (parse bytes) q.written p.written q.parsed p.parsed in
    let full : IsFullOrder p.written.gates q.order = subst (λ (w : CertificateView). IsFullOrder w.gates q.order) same q.full in
    let e : d ≡ sorted_circuits q.order p.written = q.sorted ∙ ap (sorted_circuits q.order) same in
    let all : AreAlike (sorted_circuits p.order p.written) (sorted_circuits q.order p.written) = sorted-alike p.written p.order q.order p.full full in
    subst (λ (x : CertificateView). AreAlike x d) (sym p.sorted) (subst (AreAlike (sorted_circuits p.order p.written)) (sym e) all)

-- a file of circuits has no offence
pub no-offence : (bytes : List ℕ) (c : CertificateView) (line cause : ℕ) → AreCircuits bytes c → Offence bytes line cause → ⊥
no-offence bytes c line cause p (refused l k e) = no-parse (parse bytes) (l, k) p.written e p.parsed
no-offence bytes c line cause p (cyclic f g e first) =
    let same : f ≡ p.written = one-parse (parse bytes) f p.written e p.parsed in
    sorted-acyclic p.written.gates p.order p.full g (subst (λ (w : CertificateView). DependsOn w.gates g g) same first.cycle)

pub offence-none : (bytes : List ℕ) (line cause : ℕ) → Offence bytes line cause → IsNoCircuits bytes
offence-none bytes line cause o c p = no-offence bytes c line cause p o
