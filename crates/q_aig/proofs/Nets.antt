-- A net with one more input or one more gate.
use Rattle.std.proofs.Common.{◌≡◌, ℕ, zero, suc, ◌+◌, ◌*◌, ◌/◌, ◌%◌, ◌-◌, ◌<◌, ◌≤◌, true, false, eqb, List, [], ◌∷◌, ◌++◌, length, map, get_or, refl, sym, ap, ◌∙◌, subst, inl, inr, arith, Some, slice_get}
use Rattle.std.proofs.lemmas.List.{length_push, get_or_push, get_or_append_left, get_or-map, length-map, append-nil, append_assoc}
use Rattle.std.proofs.lemmas.Bool.{cases_lt}
use Rattle.std.proofs.lemmas.Bool.Decides.{nat_tests}
use Rattle.q_logic.specs.Prelude.{Circuit, conjunction, GateNode, falsum, input_at, gate_at, Operand, Gate, IsThere, AreGates, operand_tree, gate_tree, gate_trees}
use Rattle.q_logic.proofs.CertificateTrees.{operand_tree-more, gate_trees-last, gate_trees-more_inputs, length-gate_trees}
use Rattle.q_aig.specs.Nets.{Net, node_of, operand_of, gate_of, AreDistinct, IsNew, IsNet, Keeps}

node_of-odd : (n i : ℕ) → n ≡ 2 * i + 1 → node_of n ≡ input_at i
node_of-odd n i e =
    let a : eqb n 0 ≡ false = grind (arith, nat_tests) in
    let m : n % 2 ≡ 1 = omega arith in
    let b : eqb (n % 2) 1 ≡ true = grind (arith, nat_tests) in
    let q : n / 2 ≡ i = omega arith in
    rw (a, b, q)

node_of-even : (n g : ℕ) → n ≡ 2 * g + 2 → node_of n ≡ gate_at g
node_of-even n g e =
    let a : eqb n 0 ≡ false = grind (arith, nat_tests) in
    let m : n % 2 ≡ 0 = omega arith in
    let b : eqb (n % 2) 1 ≡ false = grind (arith, nat_tests) in
    let q : n / 2 - 1 ≡ g = omega arith in
    rw (a, b, q)

even : (l : ℕ) → l % 2 ≡ 0 → eqb (l % 2) 1 ≡ false
even l e = grind (arith, nat_tests)

pub operand_of-input : (i : ℕ) → operand_of (4 * i + 2) ≡ record { node = input_at i; negated = false }
operand_of-input i =
    let l : ℕ = 4 * i + 2 in
    let a : node_of ((4 * i + 2) / 2) ≡ input_at i = node_of-odd ((4 * i + 2) / 2) i (omega arith) in
    let b : eqb ((4 * i + 2) % 2) 1 ≡ false = even (4 * i + 2) (omega arith) in
    rw (a, b)

pub operand_of-gate : (g : ℕ) → operand_of (4 * g + 4) ≡ record { node = gate_at g; negated = false }
operand_of-gate g =
    let a : node_of ((4 * g + 4) / 2) ≡ gate_at g = node_of-even ((4 * g + 4) / 2) g (omega arith) in
    let b : eqb ((4 * g + 4) % 2) 1 ≡ false = even (4 * g + 4) (omega arith) in
    rw (a, b)

pub IsThere-more : (n m n2 m2 : ℕ) (x : GateNode) → IsThere n m x → n ≤ n2 → m ≤ m2 → IsThere n2 m2 x
IsThere-more n m n2 m2 falsum h a b = tt
IsThere-more n m n2 m2 (input_at i) h a b = omega arith
IsThere-more n m n2 m2 (gate_at g) h a b = omega arith

pub AreGates-last : (n b : ℕ) (gs : List Gate) (g : Gate) → AreGates n b gs → IsThere n (b + length gs) g.left.node → IsThere n (b + length gs) g.right.node → AreGates n b (gs ++ g ∷ [])
AreGates-last n b [] g h l r =
    (IsThere-more n (b + 0) n b g.left.node l (omega arith) (omega arith), IsThere-more n (b + 0) n b g.right.node r (omega arith) (omega arith), tt)
AreGates-last n b (x ∷ gs) g h l r = (
  h.0,
  h.1,
  AreGates-last n (b + 1) gs g h.2
      (IsThere-more n (b + length (x ∷ gs)) n (b + 1 + length gs) g.left.node l (omega arith) (omega arith))
      (IsThere-more n (b + length (x ∷ gs)) n (b + 1 + length gs) g.right.node r (omega arith) (omega arith)),
)

pub AreGates-inputs : (n n2 b : ℕ) (gs : List Gate) → n ≤ n2 → AreGates n b gs → AreGates n2 b gs
AreGates-inputs n n2 b [] le h = tt
AreGates-inputs n n2 b (x ∷ gs) le h =
    (IsThere-more n b n2 b x.left.node h.0 le (omega arith), IsThere-more n b n2 b x.right.node h.1 le (omega arith), AreGates-inputs n n2 (b + 1) gs le h.2)

pub AreGates-at : (n b : ℕ) (gs : List Gate) (k : ℕ) (d : Gate) → AreGates n b gs → k < length gs → IsThere n (b + k) (get_or gs k d).left.node × IsThere n (b + k) (get_or gs k d).right.node
AreGates-at n b [] k d h lt = absurd (omega arith)
AreGates-at n b (x ∷ gs) zero d h lt =
    (IsThere-more n b n (b + 0) x.left.node h.0 (omega arith) (omega arith), IsThere-more n b n (b + 0) x.right.node h.1 (omega arith) (omega arith))
AreGates-at n b (x ∷ gs) (suc k) d h lt =
    let r : IsThere n (b + 1 + k) (get_or gs k d).left.node × IsThere n (b + 1 + k) (get_or gs k d).right.node = AreGates-at n (b + 1) gs k d h.2 (omega arith) in
    (IsThere-more n (b + 1 + k) n (b + suc k) (get_or gs k d).left.node r.0 (omega arith) (omega arith), IsThere-more n (b + 1 + k) n (b + suc k) (get_or gs k d).right.node r.1 (omega arith) (omega arith))

-- the trees of all gates
pub trees_of_gates : List ℕ → List Gate → List Circuit
trees_of_gates ins gs = gate_trees ins [] gs

length-trees : (ins : List ℕ) (gs : List Gate) → length (gate_trees ins [] gs) ≡ length gs
length-trees ins gs = let e : length (gate_trees ins [] gs) ≡ 0 + length gs = length-gate_trees ins [] gs in omega arith

there-trees : (ins : List ℕ) (gs : List Gate) (x : GateNode) → IsThere (length ins) (length gs) x → IsThere (length ins) (length (gate_trees ins [] gs)) x
there-trees ins gs x h = IsThere-more (length ins) (length gs) (length ins) (length (gate_trees ins [] gs)) x h (omega arith) (let e = length-trees ins gs in omega arith)

-- a later gate changes no tree
pub operand-later : (ins : List ℕ) (gs : List Gate) (g : Gate) (o : Operand) → IsThere (length ins) (length gs) o.node →
    operand_tree ins (gate_trees ins [] (gs ++ g ∷ [])) o ≡ operand_tree ins (gate_trees ins [] gs) o
operand-later ins gs g o h =
    let e : gate_trees ins [] (gs ++ g ∷ []) ≡ gate_trees ins [] gs ++ gate_tree ins (gate_trees ins [] gs) g ∷ [] = gate_trees-last ins gs g in
    let t = there-trees ins gs o.node h in
    let more : operand_tree (ins ++ []) (gate_trees ins [] gs ++ gate_tree ins (gate_trees ins [] gs) g ∷ []) o ≡ operand_tree ins (gate_trees ins [] gs) o = operand_tree-more ins [] (gate_trees ins [] gs) (gate_tree ins (gate_trees ins [] gs) g ∷ []) o t in
    let same : operand_tree ins (gate_trees ins [] gs ++ gate_tree ins (gate_trees ins [] gs) g ∷ []) o ≡ operand_tree ins (gate_trees ins [] gs) o = rw append-nil at more in
    rw e same

-- a later input changes no tree
pub operand-more_inputs : (ins : List ℕ) (v : ℕ) (gs : List Gate) (o : Operand) → AreGates (length ins) 0 gs → IsThere (length ins) (length gs) o.node →
    operand_tree (ins ++ v ∷ []) (gate_trees (ins ++ v ∷ []) [] gs) o ≡ operand_tree ins (gate_trees ins [] gs) o
operand-more_inputs ins v gs o a h =
    let e : gate_trees (ins ++ v ∷ []) [] gs ≡ gate_trees ins [] gs = gate_trees-more_inputs ins (v ∷ []) [] gs a in
    let t = there-trees ins gs o.node h in
    let more : operand_tree (ins ++ v ∷ []) (gate_trees ins [] gs ++ []) o ≡ operand_tree ins (gate_trees ins [] gs) o = operand_tree-more ins (v ∷ []) (gate_trees ins [] gs) [] o t in
    let same : operand_tree (ins ++ v ∷ []) (gate_trees ins [] gs) o ≡ operand_tree ins (gate_trees ins [] gs) o = rw append-nil at more in
    rw e same

pub keeps-gate : (a b : Net) (g : Gate) → b.inputs ≡ a.inputs → b.gates ≡ a.gates ++ g ∷ [] → Keeps a b
keeps-gate a b g ei eg l h =
    let there : IsThere (length a.inputs) (length (a.gates ++ g ∷ [])) (operand_of l).node = IsThere-more (length a.inputs) (length a.gates) (length a.inputs) (length (a.gates ++ g ∷ [])) (operand_of l).node h (omega arith) (let e = length_push a.gates g in omega arith) in
    (rw (ei, eg) there, rw (ei, eg) (operand-later a.inputs a.gates g (operand_of l) h))

pub keeps-input : (a b : Net) (v : ℕ) → AreGates (length a.inputs) 0 a.gates → b.inputs ≡ a.inputs ++ v ∷ [] → b.gates ≡ a.gates → Keeps a b
keeps-input a b v o ei eg l h =
    let there : IsThere (length (a.inputs ++ v ∷ [])) (length a.gates) (operand_of l).node = IsThere-more (length a.inputs) (length a.gates) (length (a.inputs ++ v ∷ [])) (length a.gates) (operand_of l).node h (let e = length_push a.inputs v in omega arith) (omega arith) in
    (rw (ei, eg) there, rw (ei, eg) (operand-more_inputs a.inputs v a.gates (operand_of l) o h))

-- the trees of later gates come behind
pub trees-front : (ins : List ℕ) (ts : List Circuit) (gs : List Gate) → (later : List Circuit) × (gate_trees ins ts gs ≡ ts ++ later)
trees-front ins ts [] = ([], sym (append-nil ts))
trees-front ins ts (g ∷ gs) =
    let t : Circuit = gate_tree ins ts g in
    let r = trees-front ins (ts ++ t ∷ []) gs in
    (t ∷ r.0, r.1 ∙ append_assoc ts (t ∷ []) r.0)

operand-front : (ins : List ℕ) (ts : List Circuit) (gs : List Gate) (o : Operand) → IsThere (length ins) (length ts) o.node → operand_tree ins (gate_trees ins ts gs) o ≡ operand_tree ins ts o
operand-front ins ts gs o h =
    let r = trees-front ins ts gs in
    let more : operand_tree (ins ++ []) (ts ++ r.0) o ≡ operand_tree ins ts o = operand_tree-more ins [] ts r.0 o h in
    let same : operand_tree ins (ts ++ r.0) o ≡ operand_tree ins ts o = rw append-nil at more in
    ap (λ (ys : List Circuit). operand_tree ins ys o) r.1 ∙ same

-- the tree of the gate at a place
pub tree-at-gate : (ins : List ℕ) (ts : List Circuit) (gs : List Gate) (k : ℕ) (d : Gate) → AreGates (length ins) (length ts) gs → k < length gs →
    get_or (gate_trees ins ts gs) (length ts + k) (Circuit.constant false) ≡ gate_tree ins (gate_trees ins ts gs) (get_or gs k d)
tree-at-gate ins ts [] k d h lt = absurd (omega arith)
tree-at-gate ins ts (g ∷ gs) zero d h lt =
    let t : Circuit = gate_tree ins ts g in
    let f : Circuit = Circuit.constant false in
    let r = trees-front ins (ts ++ t ∷ []) gs in
    let len : length (ts ++ t ∷ []) ≡ length ts + 1 = length_push ts t in
    let a : get_or (gate_trees ins (ts ++ t ∷ []) gs) (length ts) f ≡ get_or ((ts ++ t ∷ []) ++ r.0) (length ts) f = ap (λ (ys : List Circuit). get_or ys (length ts) f) r.1 in
    let b : get_or ((ts ++ t ∷ []) ++ r.0) (length ts) f ≡ get_or (ts ++ t ∷ []) (length ts) f = get_or_append_left (ts ++ t ∷ []) r.0 f (length ts) (omega arith) in
    let c : get_or (ts ++ t ∷ []) (length ts) f ≡ t = get_or_push ts t f (length ts) refl in
    let l : operand_tree ins (gate_trees ins ts (g ∷ gs)) g.left ≡ operand_tree ins ts g.left = operand-front ins ts (g ∷ gs) g.left h.0 in
    let m : operand_tree ins (gate_trees ins ts (g ∷ gs)) g.right ≡ operand_tree ins ts g.right = operand-front ins ts (g ∷ gs) g.right h.1 in
    let z : length ts + 0 ≡ length ts = omega arith in
    let both : gate_tree ins (gate_trees ins ts (g ∷ gs)) g ≡ t = cc in
    rw z (a ∙ b ∙ c ∙ sym both)
tree-at-gate ins ts (g ∷ gs) (suc k) d h lt =
    let t : Circuit = gate_tree ins ts g in
    let len : length (ts ++ t ∷ []) ≡ length ts + 1 = length_push ts t in
    let rest : AreGates (length ins) (length (ts ++ t ∷ [])) gs = rw len h.2 in
    let z : length ts + suc k ≡ length (ts ++ t ∷ []) + k = omega arith in
    rw z (tree-at-gate ins (ts ++ t ∷ []) gs k d rest (omega arith))

-- the gate of the last place
pub tree-last : (ins : List ℕ) (gs : List Gate) (g : Gate) → AreGates (length ins) 0 (gs ++ g ∷ []) →
    get_or (gate_trees ins [] (gs ++ g ∷ [])) (length gs) (Circuit.constant false) ≡ conjunction (operand_tree ins (gate_trees ins [] gs) g.left) (operand_tree ins (gate_trees ins [] gs) g.right)
tree-last ins gs g h =
    let e : gate_trees ins [] (gs ++ g ∷ []) ≡ gate_trees ins [] gs ++ gate_tree ins (gate_trees ins [] gs) g ∷ [] = gate_trees-last ins gs g in
    ap (λ (ys : List Circuit). get_or ys (length gs) (Circuit.constant false)) e ∙ get_or_push (gate_trees ins [] gs) (gate_tree ins (gate_trees ins [] gs) g) (Circuit.constant false) (length gs) (length-trees ins gs)

pub distinct-more : (xs : List ℕ) (v : ℕ) → AreDistinct xs → IsNew xs v → AreDistinct (xs ++ v ∷ [])
distinct-more xs v d n i j hi hj e =
    let len : length (xs ++ v ∷ []) ≡ length xs + 1 = length_push xs v in
    elim (cases_lt i (length xs)) [
      | inl a ↦ elim (cases_lt j (length xs)) [
        | inl b ↦ d i j a b (sym (get_or_append_left xs (v ∷ []) 0 i a) ∙ e ∙ get_or_append_left xs (v ∷ []) 0 j b)
        | inr b ↦
            let q : length xs ≡ j = omega arith in
            absurd (n i a (sym (get_or_append_left xs (v ∷ []) 0 i a) ∙ e ∙ get_or_push xs v 0 j q))
      ]
      | inr a ↦ elim (cases_lt j (length xs)) [
        | inl b ↦
            let q : length xs ≡ i = omega arith in
            absurd (n j b (sym (get_or_append_left xs (v ∷ []) 0 j b) ∙ sym e ∙ get_or_push xs v 0 i q))
        | inr b ↦ omega arith
      ]
    ]

pub net-gate : (ins : List ℕ) (gs : List Gate) (g : Gate) → IsNet (record { inputs = ins; gates = gs }) → length gs < 1152921504606846976 → IsThere (length ins) (length gs) g.left.node → IsThere (length ins) (length gs) g.right.node → IsNet (record { inputs = ins; gates = gs ++ g ∷ [] })
net-gate ins gs g n lt l r =
    let len = length_push gs g in
    record {
      few_inputs = n.few_inputs;
      few_gates = omega arith;
      distinct = n.distinct;
      ordered = AreGates-last (length ins) 0 gs g n.ordered (IsThere-more (length ins) (length gs) (length ins) (0 + length gs) g.left.node l (omega arith) (omega arith)) (IsThere-more (length ins) (length gs) (length ins) (0 + length gs) g.right.node r (omega arith) (omega arith));
    }

pub net-input : (ins : List ℕ) (gs : List Gate) (v : ℕ) → IsNet (record { inputs = ins; gates = gs }) → length ins < 1152921504606846976 → IsNew ins v → IsNet (record { inputs = ins ++ v ∷ []; gates = gs })
net-input ins gs v n lt new =
    let len = length_push ins v in
    record {
      few_inputs = omega arith;
      few_gates = n.few_gates;
      distinct = distinct-more ins v n.distinct new;
      ordered = AreGates-inputs (length ins) (length (ins ++ v ∷ [])) 0 gs (omega arith) n.ordered;
    }

-- what the two parts of a gate of the code are
pub part-there : (n k : ℕ) (gs : List (ℕ × ℕ)) → AreGates n 0 (map gate_of gs) → k < length gs → IsThere n k (operand_of (get_or gs k (0, 0)).0).node × IsThere n k (operand_of (get_or gs k (0, 0)).1).node
part-there n k gs a lt =
    let e : get_or (map gate_of gs) k (gate_of (0, 0)) ≡ gate_of (get_or gs k (0, 0)) = get_or-map gate_of gs k (0, 0) (gate_of (0, 0)) lt in
    let len : length (map gate_of gs) ≡ length gs = length-map gs gate_of in
    let r : IsThere n (0 + k) (get_or (map gate_of gs) k (gate_of (0, 0))).left.node × IsThere n (0 + k) (get_or (map gate_of gs) k (gate_of (0, 0))).right.node = AreGates-at n 0 (map gate_of gs) k (gate_of (0, 0)) a (omega arith) in
    let s : IsThere n (0 + k) (gate_of (get_or gs k (0, 0))).left.node × IsThere n (0 + k) (gate_of (get_or gs k (0, 0))).right.node = subst (λ (g : Gate). IsThere n (0 + k) g.left.node × IsThere n (0 + k) g.right.node) e r in
    (IsThere-more n (0 + k) n k (operand_of (get_or gs k (0, 0)).0).node s.0 (omega arith) (omega arith), IsThere-more n (0 + k) n k (operand_of (get_or gs k (0, 0)).1).node s.1 (omega arith) (omega arith))

pub slice_get-map : (gs : List (ℕ × ℕ)) (k : ℕ) → k < length gs → slice_get (map gate_of gs) k ≡ Some (gate_of (get_or gs k (0, 0)))
slice_get-map [] k lt = absurd (omega arith)
slice_get-map (g ∷ gs) zero lt = refl
slice_get-map (g ∷ gs) (suc k) lt = slice_get-map gs k (omega arith)
