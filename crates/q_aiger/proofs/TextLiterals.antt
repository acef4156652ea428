-- What the literals of a text stand for.
use Rattle.std.proofs.Common.{◌≡◌, ℕ, zero, suc, ◌+◌, ◌-◌, ◌*◌, ◌/◌, ◌<◌, ◌≤◌, cond, Bool, true, false, eqb, nat_lt, List, [], ◌∷◌, ◌++◌, length, map, get_or, refl, ap, sym, ◌∙◌, arith, subst, Option, Some, None, Result, Ok, Err, append-nil, append_assoc, length-append}
use Rattle.std.specs.List.{AllByRecursion, AllZip}
use Rattle.std.proofs.lemmas.List.{length-map, get_or_append_left, get_or-append_right, get_or-append-add}
use Rattle.std.proofs.lemmas.Bool.Decides.{nat_tests}
use Rattle.std.proofs.lemmas.Bool.{le-ltb, lt-ltb}
use Rattle.q_logic.specs.Prelude.{GateNode, falsum, input_at, gate_at, Operand, Gate, NamedOutput}
use Rattle.q_aiger.specs.Items.{place_of}
use Rattle.q_aiger.specs.Operands.{node_at, node_in, signed, operand_in, follow_operand, outputs_from, gate_with, follow_gate, gates_from}
use Rattle.q_aiger.specs.Circuits.{with_names}
use Rattle.q_aiger.specs.Grammar.{Definition, no_definition, Text, variables, IsVar, Stands, constant, input, gate, IsOperand, IsLawful}
use Rattle.q_aiger.proofs.DefinedPlaces.{place-some, place-is}
use Rattle.q_aiger.proofs.ItemRows.{vars_of}

var-at : (gs : List Definition) (g : ℕ) → get_or (vars_of gs) g 0 ≡ (get_or gs g no_definition).var
var-at [] g = refl
var-at (d ∷ gs) zero = refl
var-at (d ∷ gs) (suc g) = var-at gs g

positive : (v : ℕ) → 1 ≤ v → eqb v 0 ≡ false
positive v h = grind (arith, nat_tests)

zero-is : (v : ℕ) → eqb v 0 ≡ true → v ≡ 0
zero-is v e = grind arith

all-at : {X : Type 0} (P : X → Type 0) (xs : List X) (d : X) (i : ℕ) → AllByRecursion P xs → i < length xs → P (get_or xs i d)
all-at P [] d i h lt = absurd (omega arith)
all-at P (x ∷ xs) d zero h lt = h.0
all-at P (x ∷ xs) d (suc i) h lt = all-at P xs d i h.1 (omega arith)

-- a node, by the variables in order
pub stands-node : (t : Text) (v : ℕ) (n : GateNode) → IsLawful t → Stands t v n → node_in (length t.inputs) (variables t) v ≡ Some n
stands-node t v n l (constant e) = ap (λ (x : ℕ). cond (eqb x 0) (Some falsum) (node_at (length t.inputs) (place_of (variables t) x))) e
stands-node t v n l (input i lt e) =
    let low : 1 ≤ v = subst (λ (x : ℕ). 1 ≤ x) e (all-at (IsVar t.max) t.inputs 0 i l.inputs lt).0 in
    let len = length-append t.inputs (vars_of t.gates) in
    let p = place-is (variables t) v i l.once (omega arith) (get_or_append_left t.inputs (vars_of t.gates) 0 i lt ∙ e) in
    ap (λ b. cond b (Some falsum) (node_at (length t.inputs) (place_of (variables t) v))) (positive v low)
    ∙ (ap (node_at (length t.inputs)) p ∙ ap (λ b. Some (cond b (input_at i) (gate_at (i - length t.inputs)))) (lt-ltb i (length t.inputs) lt))
stands-node t v n l (gate g lt e) =
    let low : 1 ≤ v = subst (λ (x : ℕ). 1 ≤ x) e (all-at (λ d. IsVar t.max d.var) t.gates no_definition g (all-vars t.gates l.gates) lt).0 in
    let len = length-append t.inputs (vars_of t.gates) in
    let len2 = length-map t.gates (λ (d : Definition). d.var) in
    let at : get_or (variables t) (length t.inputs + g) 0 ≡ v = get_or-append-add t.inputs (vars_of t.gates) g 0 ∙ (var-at t.gates g ∙ e) in
    let p = place-is (variables t) v (length t.inputs + g) l.once (omega arith) at in
    let z : length t.inputs + g - length t.inputs ≡ g = omega arith in
    ap (λ b. cond b (Some falsum) (node_at (length t.inputs) (place_of (variables t) v))) (positive v low)
    ∙ (ap (node_at (length t.inputs)) p
    ∙ (ap (λ b. Some (cond b (input_at (length t.inputs + g)) (gate_at (length t.inputs + g - length t.inputs)))) (le-ltb (length t.inputs + g) (length t.inputs) (omega arith))
    ∙ ap (λ k. Some (gate_at k)) z))
  where
    all-vars : (gs : List Definition) → AllByRecursion (λ g. IsVar t.max g.var × (g.left ≤ 2 * t.max + 1) × (g.right ≤ 2 * t.max + 1)) gs → AllByRecursion (λ d. IsVar t.max d.var) gs
    all-vars [] h = tt
    all-vars (d ∷ gs) h = (h.0.0, all-vars gs h.1)

pub node-stands : (t : Text) (v : ℕ) (n : GateNode) → node_in (length t.inputs) (variables t) v ≡ Some n → Stands t v n
node-stands t v n e = go (eqb v 0) refl (place_of (variables t) v) refl
  where
    some-same : (a b : GateNode) → Some a ≡ Some b → a ≡ b
    some-same a b e = cc

    at : (k : ℕ) (b : Bool) → nat_lt k (length t.inputs) ≡ b → k < length (variables t) → get_or (variables t) k 0 ≡ v → Some (cond b (input_at k) (gate_at (k - length t.inputs))) ≡ Some n → Stands t v n
    at k true p lt q f =
        let low : k < length t.inputs = below k (length t.inputs) p in
        subst (Stands t v) (some-same (input_at k) n f) (input k low (sym (get_or_append_left t.inputs (vars_of t.gates) 0 k low) ∙ q))
      where
        below : (a b : ℕ) → nat_lt a b ≡ true → a < b
        below a b e = grind arith
    at k false p lt q f =
        let high : length t.inputs ≤ k = above k (length t.inputs) p in
        let len = length-append t.inputs (vars_of t.gates) in
        let len2 = length-map t.gates (λ (d : Definition). d.var) in
        let g = get_or-append_right t.inputs (vars_of t.gates) (length t.inputs) k 0 refl high in
        subst (Stands t v) (some-same (gate_at (k - length t.inputs)) n f) (gate (k - length t.inputs) (omega arith) (sym (var-at t.gates (k - length t.inputs)) ∙ (sym g ∙ q)))
      where
        above : (a b : ℕ) → nat_lt a b ≡ false → b ≤ a
        above a b e = grind arith

    go : (b : Bool) → eqb v 0 ≡ b → (p : Option ℕ) → place_of (variables t) v ≡ p → Stands t v n
    go true q p r =
        let f : Some falsum ≡ Some n = ap (λ b. cond b (Some falsum) (node_at (length t.inputs) (place_of (variables t) v))) (sym q) ∙ e in
        subst (Stands t v) (some-same falsum n f) (constant (zero-is v q))
    go false q None r = absurd (let f : None ≡ Some n = ap (node_at (length t.inputs)) (sym r) ∙ (ap (λ b. cond b (Some falsum) (node_at (length t.inputs) (place_of (variables t) v))) (sym q) ∙ e) in cc)
    go false q (Some k) r =
        let s = place-some (variables t) v k r in
        at k (nat_lt k (length t.inputs)) refl s.0 s.1 (ap (node_at (length t.inputs)) (sym r) ∙ (ap (λ b. cond b (Some falsum) (node_at (length t.inputs) (place_of (variables t) v))) (sym q) ∙ e))

pub operand-is : (t : Text) (l : ℕ) (o : Operand) → IsLawful t → IsOperand t l o → operand_in (length t.inputs) (variables t) l ≡ Some o
operand-is t l o h s = ap (signed l) (stands-node t (l / 2) o.node h s.0) ∙ ap (λ (b : Bool). let x : Option Operand = Some (record { node = o.node; negated = b }) in x) (sym s.1)

pub is-operand : (t : Text) (l : ℕ) (o : Operand) → operand_in (length t.inputs) (variables t) l ≡ Some o → IsOperand t l o
is-operand t l o e = go (node_in (length t.inputs) (variables t) (l / 2)) refl
  where
    node-of : Option Operand → GateNode
    node-of None = falsum
    node-of (Some o) = o.node

    sign-of : Option Operand → Bool
    sign-of None = false
    sign-of (Some o) = o.negated

    go : (n : Option GateNode) → node_in (length t.inputs) (variables t) (l / 2) ≡ n → IsOperand t l o
    go None q = absurd (let f : None ≡ Some o = ap (signed l) (sym q) ∙ e in cc)
    go (Some n) q =
        let f : signed l (Some n) ≡ Some o = ap (signed l) (sym q) ∙ e in
        (subst (Stands t (l / 2)) (ap node-of f) (node-stands t (l / 2) n q), sym (ap sign-of f))

-- all outputs
abbrev IsIn : ℕ → List ℕ → ℕ → Operand → Type 0
IsIn i ds l o = operand_in i ds l ≡ Some o

pub outputs-are : (i n : ℕ) (ds : List ℕ) (os : List Operand) (ls : List ℕ) (out : List Operand) → outputs_from i ds n os ls ≡ Ok out → (new : List Operand) × (out ≡ os ++ new) × AllZip (IsIn i ds) ls new
outputs-are i n ds os [] out e = let z : os ≡ out = cc in ([], sym z ∙ sym (append-nil os), tt)
outputs-are i n ds os (l ∷ ls) out e = go (operand_in i ds l) refl (λ o. outputs-are i (n + 1) ds (os ++ o ∷ []) ls out)
  where
    go : (r : Option Operand) → operand_in i ds l ≡ r → ((o : Operand) → outputs_from i ds (n + 1) (os ++ o ∷ []) ls ≡ Ok out → (new : List Operand) × (out ≡ (os ++ o ∷ []) ++ new) × AllZip (IsIn i ds) ls new) → (new : List Operand) × (out ≡ os ++ new) × AllZip (IsIn i ds) (l ∷ ls) new
    go None q ih = absurd (let f : Err (n, 5) ≡ Ok out = ap (λ r. follow_operand n r (λ o. outputs_from i ds (n + 1) (os ++ o ∷ []) ls)) (sym q) ∙ e in cc)
    go (Some o) q ih =
        let r = ih o (ap (λ r. follow_operand n r (λ o. outputs_from i ds (n + 1) (os ++ o ∷ []) ls)) (sym q) ∙ e) in
        (o ∷ r.0, r.1 ∙ append_assoc os (o ∷ []) r.0, (q, r.2))

pub are-outputs : (i n : ℕ) (ds : List ℕ) (os : List Operand) (ls : List ℕ) (new : List Operand) → AllZip (IsIn i ds) ls new → outputs_from i ds n os ls ≡ Ok (os ++ new)
are-outputs i n ds os [] [] h = ap (λ (x : List Operand). let y : Result (List Operand) (ℕ × ℕ) = Ok x in y) (sym (append-nil os))
are-outputs i n ds os [] (o ∷ new) h = absurd h
are-outputs i n ds os (l ∷ ls) [] h = absurd h
are-outputs i n ds os (l ∷ ls) (o ∷ new) h =
    ap (λ r. follow_operand n r (λ o. outputs_from i ds (n + 1) (os ++ o ∷ []) ls)) h.0
    ∙ (are-outputs i (n + 1) ds (os ++ o ∷ []) ls new h.1 ∙ ap (λ (x : List Operand). let y : Result (List Operand) (ℕ × ℕ) = Ok x in y) (append_assoc os (o ∷ []) new))

-- all gates
abbrev IsBoth : ℕ → List ℕ → (ℕ × ℕ) → Gate → Type 0
IsBoth i ds p g = (operand_in i ds p.0 ≡ Some g.left) × (operand_in i ds p.1 ≡ Some g.right)

pub gates-are : (i n : ℕ) (ds : List ℕ) (gs : List Gate) (ps : List (ℕ × ℕ)) (out : List Gate) → gates_from i ds n gs ps ≡ Ok out → (new : List Gate) × (out ≡ gs ++ new) × AllZip (IsBoth i ds) ps new
gates-are i n ds gs [] out e = let z : gs ≡ out = cc in ([], sym z ∙ sym (append-nil gs), tt)
gates-are i n ds gs (p ∷ ps) out e = go (operand_in i ds p.0) refl (operand_in i ds p.1) refl (λ g. gates-are i (n + 1) ds (gs ++ g ∷ []) ps out)
  where
    same : gates_from i ds n gs (p ∷ ps) ≡ follow_gate n (gate_with (operand_in i ds p.0) (operand_in i ds p.1)) (λ g. gates_from i ds (n + 1) (gs ++ g ∷ []) ps)
    same = refl

    go : (x : Option Operand) → operand_in i ds p.0 ≡ x → (y : Option Operand) → operand_in i ds p.1 ≡ y → ((g : Gate) → gates_from i ds (n + 1) (gs ++ g ∷ []) ps ≡ Ok out → (new : List Gate) × (out ≡ (gs ++ g ∷ []) ++ new) × AllZip (IsBoth i ds) ps new) → (new : List Gate) × (out ≡ gs ++ new) × AllZip (IsBoth i ds) (p ∷ ps) new
    go None q None r ih = absurd (let f : Err (n, 5) ≡ Ok out = ap (λ x. follow_gate n (gate_with x (operand_in i ds p.1)) (λ g. gates_from i ds (n + 1) (gs ++ g ∷ []) ps)) (sym q) ∙ e in cc)
    go None q (Some y) r ih = absurd (let f : Err (n, 5) ≡ Ok out = ap (λ x. follow_gate n (gate_with x (operand_in i ds p.1)) (λ g. gates_from i ds (n + 1) (gs ++ g ∷ []) ps)) (sym q) ∙ e in cc)
    go (Some x) q None r ih = absurd (let f : Err (n, 5) ≡ Ok out = ap (λ y. follow_gate n (gate_with (Some x) y) (λ g. gates_from i ds (n + 1) (gs ++ g ∷ []) ps)) (sym r) ∙ (ap (λ x. follow_gate n (gate_with x (operand_in i ds p.1)) (λ g. gates_from i ds (n + 1) (gs ++ g ∷ []) ps)) (sym q) ∙ e) in cc)
    go (Some x) q (Some y) r ih =
        let g : Gate = record { left = x; right = y } in
        let s = ih (record { left = x; right = y }) (ap (λ y. follow_gate n (gate_with (Some x) y) (λ g. gates_from i ds (n + 1) (gs ++ g ∷ []) ps)) (sym r) ∙ (ap (λ x. follow_gate n (gate_with x (operand_in i ds p.1)) (λ g. gates_from i ds (n + 1) (gs ++ g ∷ []) ps)) (sym q) ∙ e)) in
        (record { left = x; right = y } ∷ s.0, s.1 ∙ append_assoc gs (record { left = x; right = y } ∷ []) s.0, ((q, r), s.2))

pub are-gates : (i n : ℕ) (ds : List ℕ) (gs : List Gate) (ps : List (ℕ × ℕ)) (new : List Gate) → AllZip (IsBoth i ds) ps new → gates_from i ds n gs ps ≡ Ok (gs ++ new)
are-gates i n ds gs [] [] h = ap (λ (x : List Gate). let y : Result (List Gate) (ℕ × ℕ) = Ok x in y) (sym (append-nil gs))
are-gates i n ds gs [] (g ∷ new) h = absurd h
are-gates i n ds gs (p ∷ ps) [] h = absurd h
are-gates i n ds gs (p ∷ ps) (g ∷ new) h =
    ap (λ x. follow_gate n (gate_with x (operand_in i ds p.1)) (λ g. gates_from i ds (n + 1) (gs ++ g ∷ []) ps)) h.0.0
    ∙ (ap (λ y. follow_gate n (gate_with (Some g.left) y) (λ g. gates_from i ds (n + 1) (gs ++ g ∷ []) ps)) h.0.1
    ∙ (are-gates i (n + 1) ds (gs ++ g ∷ []) ps new h.1 ∙ ap (λ (x : List Gate). let y : Result (List Gate) (ℕ × ℕ) = Ok x in y) (append_assoc gs (g ∷ []) new)))

-- names and operands of outputs
pub names-with : (vs : List ℕ) (os : List Operand) → length vs ≡ length os → map (λ o. o.name) (with_names vs os) ≡ vs
names-with [] [] e = refl
names-with [] (o ∷ os) e = refl
names-with (v ∷ vs) [] e = absurd (omega arith)
names-with (v ∷ vs) (o ∷ os) e = ap (λ (x : List ℕ). v ∷ x) (names-with vs os (omega arith))

pub operands-with : (vs : List ℕ) (os : List Operand) → length vs ≡ length os → map (λ o. o.operand) (with_names vs os) ≡ os
operands-with [] [] e = refl
operands-with [] (o ∷ os) e = absurd (omega arith)
operands-with (v ∷ vs) [] e = absurd (omega arith)
operands-with (v ∷ vs) (o ∷ os) e = ap (λ (x : List Operand). o ∷ x) (operands-with vs os (omega arith))

pub with-both : (cs : List NamedOutput) → with_names (map (λ o. o.name) cs) (map (λ o. o.operand) cs) ≡ cs
with-both [] = refl
with-both (c ∷ cs) = ap (λ (x : List NamedOutput). c ∷ x) (with-both cs)

pub zip-length : {X Y : Type 0} (R : X → Y → Type 0) (xs : List X) (ys : List Y) → AllZip R xs ys → length xs ≡ length ys
zip-length R [] [] h = refl
zip-length R [] (y ∷ ys) h = absurd h
zip-length R (x ∷ xs) [] h = absurd h
zip-length R (x ∷ xs) (y ∷ ys) h = ap suc (zip-length R xs ys h.1)

pub zip-map : {X Y : Type 0} (R S : X → Y → Type 0) (xs : List X) (ys : List Y) → ((x : X) → (y : Y) → R x y → S x y) → AllZip R xs ys → AllZip S xs ys
zip-map R S [] [] f h = tt
zip-map R S [] (y ∷ ys) f h = h
zip-map R S (x ∷ xs) [] f h = h
zip-map R S (x ∷ xs) (y ∷ ys) f h = (f x y h.0, zip-map R S xs ys f h.1)
