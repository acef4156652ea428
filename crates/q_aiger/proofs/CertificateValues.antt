-- In whatever order the gates of the text are put, the circuits have the values of the certificate.
use Rattle.std.proofs.Common.{◌≡◌, ◌⊎◌, ℕ, zero, suc, ◌+◌, ◌<◌, ◌≤◌, ◌&&◌, not, cond, Bool, true, false, List, [], ◌∷◌, length, map, get_or, refl, ap, sym, ◌∙◌, arith, subst, inl, inr, Some}
use Rattle.std.proofs.lemmas.List.{length-map}
use Rattle.std.proofs.lemmas.Bool.{cases_lt}
use Rattle.q_logic.specs.Prelude.{Assignment, Circuit, value_of, GateNode, falsum, input_at, gate_at, Operand, Gate, CertificateView, IsThere, AreGates, node_tree, operand_tree, gate_tree, gate_trees, tree_of}
use Rattle.q_aig.proofs.Nets.{tree-at-gate}
use Rattle.q_gates.specs.Gates.{no_gate}
use Rattle.q_gates.specs.Uses.{part_of, IsFullOrder}
use Rattle.q_aiger.specs.Cones.{place_in}
use Rattle.q_aiger.specs.Circuits.{moved_node, moved, moved_gate, sorted_circuits}
use Rattle.q_aiger.proofs.GatePlaces.{place-once}

-- the value of a node and of an operand, by values of the gates
abbrev pub node_gives : List ℕ → (ℕ → Bool) → Assignment → GateNode → Bool
node_gives ins F A falsum = false
node_gives ins F A (input_at i) = A (get_or ins i 0)
node_gives ins F A (gate_at g) = F g

abbrev pub gives : List ℕ → (ℕ → Bool) → Assignment → Operand → Bool
gives ins F A o = cond o.negated (not (node_gives ins F A o.node)) (node_gives ins F A o.node)

abbrev pub gate_gives : List ℕ → (ℕ → Bool) → Assignment → Gate → Bool
gate_gives ins F A g = gives ins F A g.left && gives ins F A g.right

-- the value of a gate's tree
abbrev pub tree_gives : List ℕ → List Gate → Assignment → ℕ → Bool
tree_gives ins gs A g = value_of (get_or (gate_trees ins [] gs) g (Circuit.constant false)) A

node-value : (ins : List ℕ) (ts : List Circuit) (A : Assignment) (x : GateNode) → value_of (node_tree ins ts x) A ≡ node_gives ins (λ g. value_of (get_or ts g (Circuit.constant false)) A) A x
node-value ins ts A falsum = refl
node-value ins ts A (input_at i) = refl
node-value ins ts A (gate_at g) = refl

pub operand-value : (ins : List ℕ) (ts : List Circuit) (A : Assignment) (o : Operand) → value_of (operand_tree ins ts o) A ≡ gives ins (λ g. value_of (get_or ts g (Circuit.constant false)) A) A o
operand-value ins ts A o = go o.negated
  where
    go : (b : Bool) → value_of (cond b (Circuit.inverter (node_tree ins ts o.node)) (node_tree ins ts o.node)) A ≡ cond b (not (node_gives ins (λ g. value_of (get_or ts g (Circuit.constant false)) A) A o.node)) (node_gives ins (λ g. value_of (get_or ts g (Circuit.constant false)) A) A o.node)
    go true = ap not (node-value ins ts A o.node)
    go false = node-value ins ts A o.node

-- a gate's tree has the value of its operands
pub tree-value : (ins : List ℕ) (gs : List Gate) (A : Assignment) (g : ℕ) → AreGates (length ins) 0 gs → g < length gs → tree_gives ins gs A g ≡ gate_gives ins (tree_gives ins gs A) A (get_or gs g no_gate)
tree-value ins gs A g h lt =
    let z : 0 + g ≡ g = omega arith in
    let t : get_or (gate_trees ins [] gs) (0 + g) (Circuit.constant false) ≡ gate_tree ins (gate_trees ins [] gs) (get_or gs g no_gate) = tree-at-gate ins [] gs g no_gate h lt in
    let u : get_or (gate_trees ins [] gs) g (Circuit.constant false) ≡ gate_tree ins (gate_trees ins [] gs) (get_or gs g no_gate) = subst (λ (k : ℕ). get_or (gate_trees ins [] gs) k (Circuit.constant false) ≡ gate_tree ins (gate_trees ins [] gs) (get_or gs g no_gate)) z t in
    ap (λ (x : Circuit). value_of x A) u
    ∙ (ap (λ (b : Bool). b && value_of (operand_tree ins (gate_trees ins [] gs) (get_or gs g no_gate).right) A) (operand-value ins (gate_trees ins [] gs) A (get_or gs g no_gate).left)
    ∙ ap (λ (b : Bool). gives ins (tree_gives ins gs A) A (get_or gs g no_gate).left && b) (operand-value ins (gate_trees ins [] gs) A (get_or gs g no_gate).right))

-- Gates that were put into an order.
abbrev Once : List ℕ → Type 0
Once xs = (i j : ℕ) → i < length xs → j < length xs → get_or xs i 0 ≡ get_or xs j 0 → i ≡ j

place-of : (order : List ℕ) (j h : ℕ) → Once order → j < length order → get_or order j 0 ≡ h → place_in order h ≡ j
place-of order j h o lt e = ap (place_in order) (sym e) ∙ place-once order j o lt

-- inputs are there, and gates stand before the place
abbrev Ready : ℕ → List ℕ → ℕ → GateNode → Type 0
Ready n order k falsum = Unit {0}
Ready n order k (input_at i) = i < n
Ready n order k (gate_at h) = (j : ℕ) × (j < k) × (get_or order j 0 ≡ h)

there-moved : (n : ℕ) (order : List ℕ) (k : ℕ) (x : GateNode) → Once order → k ≤ length order → Ready n order k x → IsThere n k (moved_node order x)
there-moved n order k falsum o l r = tt
there-moved n order k (input_at i) o l r = r
there-moved n order k (gate_at h) o l r =
    let lt : r.0 < k = r.1 in
    let e = place-of order r.0 h o (omega arith) r.2 in
    omega arith

abbrev moved_gates : List ℕ → List Gate → List ℕ → List Gate
moved_gates order gs xs = map (λ g. moved_gate order (get_or gs g no_gate)) xs

ready-node : (w : CertificateView) (order : List ℕ) (k : ℕ) (m : ℕ) (x : GateNode) → IsThere (length w.inputs) m x → ((h : ℕ) → part_of x ≡ Some h → (j : ℕ) × (j < k) × (get_or order j 0 ≡ h)) → Ready (length w.inputs) order k x
ready-node w order k m falsum t f = tt
ready-node w order k m (input_at i) t f = t
ready-node w order k m (gate_at h) t f = f h refl

-- inputs and gates of the gates are there
abbrev pub AreThere : CertificateView → Type 0
AreThere w = (g : ℕ) → g < length w.gates → IsThere (length w.inputs) (length w.gates) (get_or w.gates g no_gate).left.node × IsThere (length w.inputs) (length w.gates) (get_or w.gates g no_gate).right.node

ready-gate : (w : CertificateView) (order : List ℕ) (k : ℕ) → AreThere w → IsFullOrder w.gates order → k < length order → Ready (length w.inputs) order k (get_or w.gates (get_or order k 0) no_gate).left.node × Ready (length w.inputs) order k (get_or w.gates (get_or order k 0) no_gate).right.node
ready-gate w order k t f lt =
    let p = t (get_or order k 0) (f.sorted.there k lt) in
    (ready-node w order k (length w.gates) (get_or w.gates (get_or order k 0) no_gate).left.node p.0 (λ h e. f.sorted.earlier k h lt (inl e)), ready-node w order k (length w.gates) (get_or w.gates (get_or order k 0) no_gate).right.node p.1 (λ h e. f.sorted.earlier k h lt (inr e)))

gates-by-index : (n b : ℕ) (gs : List Gate) → ((k : ℕ) → k < length gs → IsThere n (b + k) (get_or gs k no_gate).left.node × IsThere n (b + k) (get_or gs k no_gate).right.node) → AreGates n b gs
gates-by-index n b [] f = tt
gates-by-index n b (g ∷ gs) f =
    let z : b + 0 ≡ b = omega arith in
    let h = subst (λ (m : ℕ). IsThere n m g.left.node × IsThere n m g.right.node) z (f 0 (omega arith)) in
    (h.0, h.1, gates-by-index n (b + 1) gs (λ k lt. let y : b + suc k ≡ b + 1 + k = omega arith in subst (λ (m : ℕ). IsThere n m (get_or gs k no_gate).left.node × IsThere n m (get_or gs k no_gate).right.node) y (f (suc k) (omega arith))))

moved-at : (order : List ℕ) (gs : List Gate) (xs : List ℕ) (k : ℕ) → k < length xs → get_or (moved_gates order gs xs) k no_gate ≡ moved_gate order (get_or gs (get_or xs k 0) no_gate)
moved-at order gs [] k lt = absurd (omega arith)
moved-at order gs (x ∷ xs) zero lt = refl
moved-at order gs (x ∷ xs) (suc k) lt = moved-at order gs xs k (omega arith)

sorted-gates : (w : CertificateView) (order : List ℕ) → AreThere w → IsFullOrder w.gates order → AreGates (length w.inputs) 0 (moved_gates order w.gates order)
sorted-gates w order t f = gates-by-index (length w.inputs) 0 (moved_gates order w.gates order) (λ k lt.
    let len : length (moved_gates order w.gates order) ≡ length order = length-map order (λ (g : ℕ). moved_gate order (get_or w.gates g no_gate)) in
    let r = ready-gate w order k t f (omega arith) in
    let z : k ≡ 0 + k = omega arith in
    let e = moved-at order w.gates order k (omega arith) in
    subst (λ (m : ℕ). IsThere (length w.inputs) m (get_or (moved_gates order w.gates order) k no_gate).left.node × IsThere (length w.inputs) m (get_or (moved_gates order w.gates order) k no_gate).right.node) z
    (subst (λ (g : Gate). IsThere (length w.inputs) k g.left.node × IsThere (length w.inputs) k g.right.node) (sym e)
    (there-moved (length w.inputs) order k (get_or w.gates (get_or order k 0) no_gate).left.node f.sorted.once (omega arith) r.0, there-moved (length w.inputs) order k (get_or w.gates (get_or order k 0) no_gate).right.node f.sorted.once (omega arith) r.1)))

-- an operand that was moved has the value that it had
operand-moved : (ins : List ℕ) (F G : ℕ → Bool) (A : Assignment) (order : List ℕ) (k : ℕ) (o : Operand) → Once order → k ≤ length order → ((j : ℕ) → j < k → G j ≡ F (get_or order j 0)) → Ready (length ins) order k o.node → gives ins G A (moved order o) ≡ gives ins F A o
operand-moved ins F G A order k o u l h r = ap (λ (b : Bool). cond o.negated (not b) b) (node o.node r)
  where
    node : (x : GateNode) → Ready (length ins) order k x → node_gives ins G A (moved_node order x) ≡ node_gives ins F A x
    node falsum r = refl
    node (input_at i) r = refl
    node (gate_at g) r =
        let lt : r.0 < k = r.1 in
        ap G (place-of order r.0 g u (omega arith) r.2) ∙ (h r.0 r.1 ∙ ap F r.2)

-- values that the gates of a file have: each is the value of its operands
abbrev pub AreValuesOf : CertificateView → (ℕ → Bool) → Assignment → Type 0
AreValuesOf w F A = (g : ℕ) → g < length w.gates → F g ≡ gate_gives w.inputs F A (get_or w.gates g no_gate)

sorted-value : (w : CertificateView) (order : List ℕ) (F : ℕ → Bool) (A : Assignment) → AreThere w → IsFullOrder w.gates order → AreValuesOf w F A → (k : ℕ) → k ≤ length order → (j : ℕ) → j < k → tree_gives w.inputs (moved_gates order w.gates order) A j ≡ F (get_or order j 0)
sorted-value w order F A t f v zero l j lt = absurd (omega arith)
sorted-value w order F A t f v (suc k) l j lt = go (cases_lt j k) (sorted-value w order F A t f v k (omega arith))
  where
    go : (j < k) ⊎ (k ≤ j) → ((j : ℕ) → j < k → tree_gives w.inputs (moved_gates order w.gates order) A j ≡ F (get_or order j 0)) → tree_gives w.inputs (moved_gates order w.gates order) A j ≡ F (get_or order j 0)
    go (inl a) ih = ih j a
    go (inr a) ih =
        let z : k ≡ j = omega arith in
        let len : length (moved_gates order w.gates order) ≡ length order = length-map order (λ (g : ℕ). moved_gate order (get_or w.gates g no_gate)) in
        let r = ready-gate w order k t f (omega arith) in
        let e = moved-at order w.gates order k (omega arith) in
        let p = tree-value w.inputs (moved_gates order w.gates order) A k (sorted-gates w order t f) (omega arith) in
        let o : gate_gives w.inputs (tree_gives w.inputs (moved_gates order w.gates order) A) A (moved_gate order (get_or w.gates (get_or order k 0) no_gate)) ≡ gate_gives w.inputs F A (get_or w.gates (get_or order k 0) no_gate) =
        ap (λ (b : Bool). b && gives w.inputs (tree_gives w.inputs (moved_gates order w.gates order) A) A (moved order (get_or w.gates (get_or order k 0) no_gate).right)) (operand-moved w.inputs F (tree_gives w.inputs (moved_gates order w.gates order) A) A order k (get_or w.gates (get_or order k 0) no_gate).left f.sorted.once (omega arith) ih r.0)
        ∙ ap (λ (b : Bool). gives w.inputs F A (get_or w.gates (get_or order k 0) no_gate).left && b) (operand-moved w.inputs F (tree_gives w.inputs (moved_gates order w.gates order) A) A order k (get_or w.gates (get_or order k 0) no_gate).right f.sorted.once (omega arith) ih r.1) in
        let whole : tree_gives w.inputs (moved_gates order w.gates order) A k ≡ F (get_or order k 0) = p ∙ (ap (gate_gives w.inputs (tree_gives w.inputs (moved_gates order w.gates order) A) A) e ∙ (o ∙ sym (v (get_or order k 0) (f.sorted.there k (omega arith))))) in
        subst (λ (i : ℕ). tree_gives w.inputs (moved_gates order w.gates order) A i ≡ F (get_or order i 0)) z whole

-- an operand of the file, by any such values
pub sorted-operand : (w : CertificateView) (order : List ℕ) (F : ℕ → Bool) (A : Assignment) (o : Operand) → AreThere w → IsFullOrder w.gates order → AreValuesOf w F A → IsThere (length w.inputs) (length w.gates) o.node → value_of (tree_of (sorted_circuits order w) (moved order o)) A ≡ gives w.inputs F A o
sorted-operand w order F A o t f v h =
    operand-value w.inputs (gate_trees w.inputs [] (moved_gates order w.gates order)) A (moved order o)
    ∙ operand-moved w.inputs F (tree_gives w.inputs (moved_gates order w.gates order) A) A order (length order) o f.sorted.once (omega arith) (sorted-value w order F A t f v (length order) (omega arith)) (ready o.node h)
  where
    ready : (x : GateNode) → IsThere (length w.inputs) (length w.gates) x → Ready (length w.inputs) order (length order) x
    ready falsum h = tt
    ready (input_at i) h = h
    ready (gate_at g) h = f.all g h
