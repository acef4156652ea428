-- Gates and outputs at their places in an order.
use Rattle.std.proofs.Common.{◌≡◌, ◌≢◌, inl, inr, ℕ, zero, suc, ◌+◌, ◌<◌, ◌≤◌, Bool, true, false, List, [], ◌∷◌, ◌++◌, length, map, take, get_or, set, refl, ap, sym, ◌∙◌, arith, subst, Some, add-one}
use Rattle.std.proofs.Math.Seq.{take-suc}
use Rattle.std.proofs.lemmas.List.{length-map, get_or-map, get_or-take, length-take-le, get_or-set_same, get_or-set_other, length_push, get_or_append_left, get_or_push, map_push}
use Rattle.std.proofs.lemmas.Bool.{cases_lt, cases_eq}
use Rattle.q_logic.specs.Prelude.{GateNode, falsum, input_at, gate_at, Operand, Gate, NamedOutput, CertificateView, IsThere}
use Rattle.q_logic.proofs.Common.{taken-all}
use Rattle.q_aig.specs.Prelude.{operand_of}
use Rattle.q_gates.specs.Gates.{no_gate}
use Rattle.q_aiger.specs.Cones.{place_in}
use Rattle.q_gates.specs.Uses.{part_of, IsFullOrder}
use Rattle.q_aiger.specs.Circuits.{moved_node, moved, moved_gate, moved_output, with_names, sorted_circuits}
use Rattle.q_aiger.specs.Symbols.{AreApart}
use Rattle.q_aiger.specs.Making.{plain, node_through, signed_through, through, gate_through, output_through, IsInputRow, IsGateRow, first_gates, AreVariables, AreGatesThere, AreOperandsThere}
use Rattle.q_aig.proofs.Nets.{IsThere-more}
use Rattle.q_gates.specs.declared.gate.Gate.{Gate as GateCode}
use Rattle.q_gates.specs.declared.gate.Operand.{Operand as OperandCode}
use Rattle.q_gates.specs.Gates.{operand_view, gate_view, gates_view}
use Rattle.q_aiger.specs.Standing.{operands_view}

abbrev Once : List ℕ → Type 0
Once xs = (i j : ℕ) → i < length xs → j < length xs → get_or xs i 0 ≡ get_or xs j 0 → i ≡ j

pub place-once : (xs : List ℕ) (i : ℕ) → Once xs → i < length xs → place_in xs (get_or xs i 0) ≡ i
place-once [] i o lt = absurd (omega arith)
place-once (x ∷ xs) zero o lt = grind arith
place-once (x ∷ xs) (suc i) o lt =
    let h : place_in xs (get_or xs i 0) ≡ i = place-once xs i (λ j k a b e. let s : suc j ≡ suc k = o (suc j) (suc k) (omega arith) (omega arith) e in omega arith) (omega arith) in
    let ne : x ≢ get_or xs i 0 = λ e. absurd (let s : 0 ≡ suc i = o 0 (suc i) (omega arith) lt e in omega arith) in
    grind arith

-- the node is there, gates among the first of an order
abbrev Ready : ℕ → List ℕ → ℕ → GateNode → Type 0
Ready n order k falsum = Unit {0}
Ready n order k (input_at i) = i < n
Ready n order k (gate_at h) = (j : ℕ) × (j < k) × (get_or order j 0 ≡ h)

signed-plain : (b : Bool) (n : GateNode) → signed_through b (plain n) ≡ record { node = n; negated = b }
signed-plain true n = refl
signed-plain false n = refl

place-of : (order : List ℕ) (j h : ℕ) → Once order → j < length order → get_or order j 0 ≡ h → place_in order h ≡ j
place-of order j h o lt e = ap (place_in order) (sym e) ∙ place-once order j o lt

node-moved : (inputs row order : List ℕ) (n k : ℕ) (x : GateNode) → IsInputRow n inputs → IsGateRow order k row → Once order → k ≤ length order → Ready n order k x → node_through inputs row x ≡ plain (moved_node order x)
node-moved inputs row order n k falsum i g o le r = refl
node-moved inputs row order n k (input_at x) i g o le r = i.literals x r
node-moved inputs row order n k (gate_at h) i g o le r =
    let lt : r.0 < k = r.1 in
    ap (λ y. operand_of (get_or row y 0)) (sym r.2) ∙ (g r.0 r.1 ∙ ap (λ y. plain (gate_at y)) (sym (place-of order r.0 h o (omega arith) r.2)))

node-there : (order : List ℕ) (n k : ℕ) (x : GateNode) → Once order → k ≤ length order → Ready n order k x → IsThere n k (moved_node order x)
node-there order n k falsum o le r = tt
node-there order n k (input_at x) o le r = r
node-there order n k (gate_at h) o le r =
    let lt : r.0 < k = r.1 in
    let e = place-of order r.0 h o (omega arith) r.2 in
    omega arith

pub through-moved : (inputs row order : List ℕ) (n k : ℕ) (x : Operand) → IsInputRow n inputs → IsGateRow order k row → Once order → k ≤ length order → Ready n order k x.node → through inputs row x ≡ moved order x
through-moved inputs row order n k x i g o le r = ap (signed_through x.negated) (node-moved inputs row order n k x.node i g o le r) ∙ signed-plain x.negated (moved_node order x.node)

pub through-there : (inputs row order : List ℕ) (n k : ℕ) (x : Operand) → IsInputRow n inputs → IsGateRow order k row → Once order → k ≤ length order → Ready n order k x.node → IsThere n k (through inputs row x).node
through-there inputs row order n k x i g o le r = subst (λ (y : Operand). IsThere n k y.node) (sym (through-moved inputs row order n k x i g o le r)) (node-there order n k x.node o le r)

ready-node : (n m k : ℕ) (order : List ℕ) (x : GateNode) → IsThere n m x → ((h : ℕ) → part_of x ≡ Some h → (j : ℕ) × (j < k) × (get_or order j 0 ≡ h)) → Ready n order k x
ready-node n m k order falsum t f = tt
ready-node n m k order (input_at i) t f = t
ready-node n m k order (gate_at h) t f = f h refl

pub gate-ready : (ps : List Gate) (order : List ℕ) (n k : ℕ) → IsFullOrder ps order → AreGatesThere n ps → k < length order → Ready n order k (get_or ps (get_or order k 0) no_gate).left.node × Ready n order k (get_or ps (get_or order k 0) no_gate).right.node
gate-ready ps order n k f t lt =
    let g : ℕ = get_or order k 0 in
    let th = t (get_or order k 0) (f.sorted.there k lt) in (
      ready-node n (length ps) k order (get_or ps (get_or order k 0) no_gate).left.node th.0 (λ h e. f.sorted.earlier k h lt (inl e)),
      ready-node n (length ps) k order (get_or ps (get_or order k 0) no_gate).right.node th.1 (λ h e. f.sorted.earlier k h lt (inr e)),
    )

-- in a full order all gates are there
pub all-ready : (ps : List Gate) (order : List ℕ) (n : ℕ) (x : GateNode) → IsFullOrder ps order → IsThere n (length ps) x → Ready n order (length order) x
all-ready ps order n falsum f t = tt
all-ready ps order n (input_at i) f t = t
all-ready ps order n (gate_at h) f t = let s = f.all h t in (s.0, s.1, s.2)

pub first-more : (order : List ℕ) (ps : List Gate) (k : ℕ) → k < length order → first_gates order ps (k + 1) ≡ first_gates order ps k ++ moved_gate order (get_or ps (get_or order k 0) no_gate) ∷ []
first-more order ps k lt =
    ap (first_gates order ps) (add-one k)
    ∙ (ap (map (λ g. moved_gate order (get_or ps g no_gate))) (take-suc order k 0 lt)
    ∙ map_push (λ g. moved_gate order (get_or ps g no_gate)) (take k order) (get_or order k 0))

pub length-first : (order : List ℕ) (ps : List Gate) (k : ℕ) → k ≤ length order → length (first_gates order ps k) ≡ k
length-first order ps k le = length-map (take k order) (λ g. moved_gate order (get_or ps g no_gate)) ∙ length-take-le k order le

pub row-more : (order row : List ℕ) (k lit : ℕ) → Once order → IsGateRow order k row → k < length order → get_or order k 0 < length row → operand_of lit ≡ plain (gate_at k) → IsGateRow order (k + 1) (set row (get_or order k 0) lit)
row-more order row k lit o g lt room e j b = elim (cases_eq j k) [
  | inl q ↦ subst (λ y. operand_of (get_or (set row (get_or order k 0) lit) (get_or order y 0) 0) ≡ plain (gate_at y)) (sym q)
      (ap operand_of (get_or-set_same row (get_or order k 0) lit 0 room) ∙ e)
  | inr q ↦ ap operand_of (get_or-set_other row (get_or order k 0) (get_or order j 0) lit 0 (λ s. q (o j k (omega arith) lt s))) ∙ g j (omega arith)
]

abbrev made : Operand → Operand → Gate
made a b = record { left = a; right = b }

pub gate-moved : (inputs row order : List ℕ) (n k : ℕ) (g : Gate) → IsInputRow n inputs → IsGateRow order k row → Once order → k ≤ length order → Ready n order k g.left.node → Ready n order k g.right.node → gate_through inputs row g ≡ moved_gate order g
gate-moved inputs row order n k g i r o le a b =
    ap (λ x. made x (through inputs row g.right)) (through-moved inputs row order n k g.left i r o le a) ∙ ap (made (moved order g.left)) (through-moved inputs row order n k g.right i r o le b)

-- names that come are new
pub new-name : (names : List ℕ) (k : ℕ) → AreApart names → AreVariables names → k < length names → (i : ℕ) → i < length (take k names) → get_or (take k names) i 0 ≢ get_or names k 0
new-name names k a v lt i b e =
    let l = length-take-le k names (omega arith) in
    let t = get_or-take k names i 0 (omega arith) in
    let s : get_or names i 0 ≡ get_or names k 0 = sym t ∙ e in
    absurd (let q : i ≡ k = a i k (omega arith) lt (v i (omega arith)) s in omega arith)

pub inputs-more : (row row2 : List ℕ) (k lit : ℕ) → IsInputRow k row → row2 ≡ row ++ lit ∷ [] → operand_of lit ≡ plain (input_at k) → IsInputRow (k + 1) row2
inputs-more row row2 k lit r e f =
    subst (IsInputRow (k + 1)) (sym e) (record {
      room = let l = length_push row lit in let h : length row ≡ k = r.room in omega arith;
      literals = λ i b. let h : length row ≡ k = r.room in elim (cases_lt i k) [
        | inl x ↦ ap operand_of (get_or_append_left row (lit ∷ []) 0 i (omega arith)) ∙ r.literals i x
        | inr x ↦ let z : i ≡ k = omega arith in ap operand_of (get_or_push row lit 0 i (omega arith)) ∙ (f ∙ ap (λ y. plain (input_at y)) (sym z))
      ];
    })

pub named-length : (names : List ℕ) (os : List Operand) → length names ≡ length os → length (with_names names os) ≡ length os
named-length [] [] e = refl
named-length [] (o ∷ os) e = absurd (omega arith)
named-length (v ∷ vs) [] e = absurd (omega arith)
named-length (v ∷ vs) (o ∷ os) e = ap suc (named-length vs os (omega arith))

abbrev pub named : ℕ → Operand → NamedOutput
named v o = record { name = v; operand = o }

pub named-at : (f : Operand → Operand) (names : List ℕ) (os : List Operand) (k : ℕ) (d : NamedOutput) (c : Operand) → length names ≡ length os → k < length os → get_or (map (λ (o : NamedOutput). named o.name (f o.operand)) (with_names names os)) k d ≡ named (get_or names k 0) (f (get_or os k c))
named-at f [] [] k d c e lt = absurd (omega arith)
named-at f [] (o ∷ os) k d c e lt = absurd (omega arith)
named-at f (v ∷ vs) [] k d c e lt = absurd (omega arith)
named-at f (v ∷ vs) (o ∷ os) zero d c e lt = refl
named-at f (v ∷ vs) (o ∷ os) (suc k) d c e lt = named-at f vs os k d c (omega arith) (omega arith)

pub outputs-moved : (inputs row order names : List ℕ) (os : List Operand) → ((k : ℕ) → k < length os → through inputs row (get_or os k (plain falsum)) ≡ moved order (get_or os k (plain falsum))) → map (output_through inputs row) (with_names names os) ≡ map (moved_output order) (with_names names os)
outputs-moved inputs row order [] os h = refl
outputs-moved inputs row order (v ∷ vs) [] h = refl
outputs-moved inputs row order (v ∷ vs) (o ∷ os) h = ap (λ x. named v x ∷ map (output_through inputs row) (with_names vs os)) (h 0 (omega arith)) ∙ ap (λ x. named v (moved order o) ∷ x) (outputs-moved inputs row order vs os (λ k lt. h (suc k) (omega arith)))

-- what is asked and known of one gate of the order
pub record GatesTurn (inputs row ains : List ℕ) (agates : List Gate) (order : List ℕ) (ps : List Gate) (k : ℕ) (g : Gate) : Type 0 where
  pub left : IsThere (length inputs) (length row) g.left.node
  pub right : IsThere (length inputs) (length row) g.right.node
  pub left_literal : IsThere (length ains) (length agates) (through inputs row g.left).node
  pub right_literal : IsThere (length ains) (length agates) (through inputs row g.right).node
  pub made : gate_through inputs row g ≡ moved_gate order (get_or ps (get_or order k 0) no_gate)

pub gates-turn : (gates : List GateCode) (order : List ℕ) (k : ℕ) (inputs0 inputs row : List ℕ) (d : GateCode) (ains0 ains : List ℕ) (agates : List Gate) → IsFullOrder (gates_view gates) order → AreGatesThere (length inputs0) (gates_view gates) → IsInputRow (length ains0) inputs0 → inputs ≡ inputs0 → length row ≡ length gates → IsGateRow order k row → k < length order → ains ≡ ains0 → agates ≡ first_gates order (gates_view gates) k → GatesTurn inputs row ains agates order (gates_view gates) k (gate_view (get_or gates (get_or order k 0) d))
gates-turn gates order k inputs0 inputs row d ains0 ains agates f t i ei room r lt ea eg =
    let ps : List Gate = gates_view gates in
    let len : length (map gate_view gates) ≡ length gates = length-map gates gate_view in
    let below : get_or order k 0 < length (map gate_view gates) = f.sorted.there k lt in
    let at : get_or (map gate_view gates) (get_or order k 0) no_gate ≡ gate_view (get_or gates (get_or order k 0) d) = get_or-map gate_view gates (get_or order k 0) d no_gate (omega arith) in
    let n : length inputs0 ≡ length ains0 = i.room in
    let li : length inputs ≡ length inputs0 = ap length ei in
    let la : length ains ≡ length ains0 = ap length ea in
    let lg : length agates ≡ k = ap length eg ∙ length-first order (gates_view gates) k (omega arith) in
    let i2 : IsInputRow (length inputs0) inputs = subst (IsInputRow (length inputs0)) (sym ei) (subst (λ m. IsInputRow m inputs0) (sym n) i) in
    let th0 = t (get_or order k 0) below in
    let th : IsThere (length inputs0) (length (map gate_view gates)) (gate_view (get_or gates (get_or order k 0) d)).left.node × IsThere (length inputs0) (length (map gate_view gates)) (gate_view (get_or gates (get_or order k 0) d)).right.node = subst (λ (g : Gate). IsThere (length inputs0) (length (map gate_view gates)) g.left.node × IsThere (length inputs0) (length (map gate_view gates)) g.right.node) at th0 in
    let rd0 = gate-ready (gates_view gates) order (length inputs0) k f t lt in
    let rd : Ready (length inputs0) order k (gate_view (get_or gates (get_or order k 0) d)).left.node × Ready (length inputs0) order k (gate_view (get_or gates (get_or order k 0) d)).right.node = subst (λ (g : Gate). Ready (length inputs0) order k g.left.node × Ready (length inputs0) order k g.right.node) at rd0 in
    let g : Gate = gate_view (get_or gates (get_or order k 0) d) in
    let a = through-there inputs row order (length inputs0) k g.left i2 r f.sorted.once (omega arith) rd.0 in
    let b = through-there inputs row order (length inputs0) k g.right i2 r f.sorted.once (omega arith) rd.1 in
    record {
      left = IsThere-more (length inputs0) (length (map gate_view gates)) (length inputs) (length row) (gate_view (get_or gates (get_or order k 0) d)).left.node th.0 (omega arith) (omega arith);
      right = IsThere-more (length inputs0) (length (map gate_view gates)) (length inputs) (length row) (gate_view (get_or gates (get_or order k 0) d)).right.node th.1 (omega arith) (omega arith);
      left_literal = IsThere-more (length inputs0) k (length ains) (length agates) (through inputs row (gate_view (get_or gates (get_or order k 0) d)).left).node a (omega arith) (omega arith);
      right_literal = IsThere-more (length inputs0) k (length ains) (length agates) (through inputs row (gate_view (get_or gates (get_or order k 0) d)).right).node b (omega arith) (omega arith);
      made = gate-moved inputs row order (length inputs0) k g i2 r f.sorted.once (omega arith) rd.0 rd.1 ∙ ap (moved_gate order) (sym at);
    }

pub output-at : (inputs row names : List ℕ) (outputs : List OperandCode) (k : ℕ) (e : NamedOutput) (d : OperandCode) → length names ≡ length outputs → k < length names → get_or (map (output_through inputs row) (with_names names (operands_view outputs))) k e ≡ named (get_or names k 0) (through inputs row (operand_view (get_or outputs k d)))
output-at inputs row names outputs k e d same lt =
    let len : length (map operand_view outputs) ≡ length outputs = length-map outputs operand_view in
    let at : get_or (map operand_view outputs) k (plain falsum) ≡ operand_view (get_or outputs k d) = get_or-map operand_view outputs k d (plain falsum) (omega arith) in
    named-at (through inputs row) names (operands_view outputs) k e (plain falsum) (omega arith) (omega arith) ∙ ap (λ (o : Operand). named (get_or names k 0) (through inputs row o)) at

pub outputs-length : (inputs row names : List ℕ) (outputs : List OperandCode) → length names ≡ length outputs → length (map (output_through inputs row) (with_names names (operands_view outputs))) ≡ length names
outputs-length inputs row names outputs same =
    let len : length (map operand_view outputs) ≡ length outputs = length-map outputs operand_view in
    let a = length-map (with_names names (operands_view outputs)) (output_through inputs row) in
    let b = named-length names (operands_view outputs) (omega arith) in
    omega arith

pub operand-there : (n m : ℕ) (outputs : List OperandCode) (k : ℕ) (d : OperandCode) (P : Operand → Type 0) → k < length outputs → P (get_or (operands_view outputs) k (plain falsum)) → P (operand_view (get_or outputs k d))
operand-there n m outputs k d P lt h = subst P (get_or-map operand_view outputs k d (plain falsum) lt) h

abbrev whole : List ℕ → List Gate → List NamedOutput → CertificateView
whole i g o = record { inputs = i; gates = g; outputs = o }

pub made-all : (r : CertificateView) (order inputs names row_in row : List ℕ) (ps : List Gate) (os : List Operand) (n : ℕ) → r.inputs ≡ inputs → r.gates ≡ first_gates order ps (length order) → r.outputs ≡ map (output_through row_in row) (with_names names os) → IsInputRow n row_in → IsGateRow order (length order) row → IsFullOrder ps order → AreOperandsThere n (length ps) os → r ≡ sorted_circuits order (record { inputs = inputs; gates = ps; outputs = with_names names os })
made-all r order inputs names row_in row ps os n ei eg eo i g f t =
    ap (λ (x : List ℕ). whole x r.gates r.outputs) ei
    ∙ (ap (λ (x : List Gate). whole inputs x r.outputs) (eg ∙ ap (map (λ g. moved_gate order (get_or ps g no_gate))) (taken-all order (length order) (omega arith)))
    ∙ ap (whole inputs (map (λ g. moved_gate order (get_or ps g no_gate)) order)) (eo ∙ outputs-moved row_in row order names os (λ k lt. through-moved row_in row order n (length order) (get_or os k (plain falsum)) i g f.sorted.once (omega arith) (all-ready ps order n (get_or os k (plain falsum)).node f (t k lt)))))

pub made-there : (order row_in row : List ℕ) (ps : List Gate) (os : List Operand) (n : ℕ) (ains : List ℕ) (agates : List Gate) → length ains ≡ n → agates ≡ first_gates order ps (length order) → IsInputRow n row_in → IsGateRow order (length order) row → IsFullOrder ps order → AreOperandsThere n (length ps) os → (k : ℕ) → k < length os → IsThere (length ains) (length agates) (through row_in row (get_or os k (plain falsum))).node
made-there order row_in row ps os n ains agates ea eg i g f t k lt =
    let lg : length agates ≡ length order = ap length eg ∙ length-first order ps (length order) (omega arith) in
    IsThere-more n (length order) (length ains) (length agates) (through row_in row (get_or os k (plain falsum))).node
    (through-there row_in row order n (length order) (get_or os k (plain falsum)) i g f.sorted.once (omega arith) (all-ready ps order n (get_or os k (plain falsum)).node f (t k lt)))
    (omega arith) (omega arith)
