-- Operands that were resolved are there, and names that are all given are variables.
use Rattle.std.proofs.Common.{◌≡◌, inl, inr, ℕ, suc, ◌+◌, ◌-◌, ◌/◌, ◌<◌, ◌≤◌, Bool, true, false, not, cond, eqb, map, nat_lt, List, [], ◌∷◌, ◌++◌, length, get_or, refl, ap, sym, ◌∙◌, arith, subst, Option, Some, None, Ok}
use Rattle.std.proofs.lemmas.List.{length_push, get_or_append_left, get_or_push, length-map}
use Rattle.std.proofs.lemmas.Bool.{both_ways, cases_lt}
use Rattle.q_logic.specs.Prelude.{GateNode, falsum, input_at, gate_at, Operand, Gate, CertificateView, IsThere}
use Rattle.q_gates.specs.Gates.{no_gate}
use Rattle.q_aiger.specs.Items.{place_of, raised}
use Rattle.q_aiger.specs.Symbols.{is_used, all_named}
use Rattle.q_aiger.specs.Operands.{node_at, node_in, signed, operand_in, follow_operand, outputs_from, gate_with, follow_gate, gates_from}
use Rattle.q_aiger.specs.Making.{plain, AreVariables, AreOperandsThere}
use Rattle.q_text.specs.Texts.{lines, onto_first}
use Rattle.q_aiger.specs.Lines.{ended, lines_of}
use Rattle.q_gates.specs.declared.gate.Operand.{Operand as OperandCode}
use Rattle.q_gates.specs.Gates.{operand_view}
use Rattle.q_aiger.specs.Standing.{operands_view, FailsAs}
use Rattle.q_aiger.specs.declared.error.AigerError.{AigerError}
use Rattle.q_aiger.specs.declared.error.AigerError.TheVariants.{Refused, NoMemory}
use Rattle.q_gates.specs.Uses.{IsFirstCycle}
use Rattle.q_aiger.specs.Circuits.{parse, with_names, Offence, refused, cyclic, FailsWith}
use Rattle.q_aiger.proofs.LongerNames.{used-at}

pub variables : (names : List ℕ) → all_named names ≡ true → AreVariables names
variables names e i lt = elim (cases_lt 0 (get_or names i 0)) [
  | inl a ↦ a
  | inr a ↦ absurd (let z : get_or names i 0 ≡ 0 = omega arith in both_ways (is_used names 0) (not-is (is_used names 0) e) (used-at names i 0 lt z))
]
  where
    not-is : (a : Bool) → not a ≡ true → a ≡ false
    not-is true e = absurd (both_ways false refl e)
    not-is false e = refl

place-below : (ds : List ℕ) (v k : ℕ) → place_of ds v ≡ Some k → k < length ds
place-below [] v k e = absurd (cc)
place-below (d ∷ ds) v k e = go (eqb d v) refl (place_of ds v) refl (place-below ds v)
  where
    go : (b : Bool) → eqb d v ≡ b → (p : Option ℕ) → place_of ds v ≡ p → ((j : ℕ) → place_of ds v ≡ Some j → j < length ds) → k < length (d ∷ ds)
    go true q p r ih = let f : Some 0 ≡ Some k = ap (λ b. cond b (Some 0) (raised (place_of ds v))) (sym q) ∙ e in let z : 0 ≡ k = cc in omega arith
    go false q None r ih = absurd (let f : None ≡ Some k = ap raised (sym r) ∙ (ap (λ b. cond b (Some 0) (raised (place_of ds v))) (sym q) ∙ e) in cc)
    go false q (Some j) r ih = let f : Some (suc j) ≡ Some k = ap raised (sym r) ∙ (ap (λ b. cond b (Some 0) (raised (place_of ds v))) (sym q) ∙ e) in let z : suc j ≡ k = cc in let l = ih j r in omega arith

node-there : (i v : ℕ) (ds : List ℕ) (n : GateNode) → node_in i ds v ≡ Some n → IsThere i (length ds - i) n
node-there i v ds n e = go (eqb v 0) refl (place_of ds v) refl
  where
    at : (k : ℕ) (b : Bool) → nat_lt k i ≡ b → k < length ds → Some (cond b (input_at k) (gate_at (k - i))) ≡ Some n → IsThere i (length ds - i) n
    at k true p lt f = let z : input_at k ≡ n = cc in subst (IsThere i (length ds - i)) z (lt-is k i p)
      where
        lt-is : (a b : ℕ) → nat_lt a b ≡ true → a < b
        lt-is a b e = grind arith
    at k false p lt f = let z : gate_at (k - i) ≡ n = cc in subst (IsThere i (length ds - i)) z (let le = le-is k i p in omega arith)
      where
        le-is : (a b : ℕ) → nat_lt a b ≡ false → b ≤ a
        le-is a b e = grind arith

    go : (b : Bool) → eqb v 0 ≡ b → (p : Option ℕ) → place_of ds v ≡ p → IsThere i (length ds - i) n
    go true q p r = let f : Some falsum ≡ Some n = ap (λ b. cond b (Some falsum) (node_at i (place_of ds v))) (sym q) ∙ e in let z : falsum ≡ n = cc in subst (IsThere i (length ds - i)) z tt
    go false q None r = absurd (let f : None ≡ Some n = ap (node_at i) (sym r) ∙ (ap (λ b. cond b (Some falsum) (node_at i (place_of ds v))) (sym q) ∙ e) in cc)
    go false q (Some k) r = at k (nat_lt k i) refl (place-below ds v k r) (ap (node_at i) (sym r) ∙ (ap (λ b. cond b (Some falsum) (node_at i (place_of ds v))) (sym q) ∙ e))

operand-there : (i l : ℕ) (ds : List ℕ) (o : Operand) → operand_in i ds l ≡ Some o → IsThere i (length ds - i) o.node
operand-there i l ds o e = go (node_in i ds (l / 2)) refl
  where
    go : (n : Option GateNode) → node_in i ds (l / 2) ≡ n → IsThere i (length ds - i) o.node
    go None q = absurd (let f : None ≡ Some o = ap (signed l) (sym q) ∙ e in cc)
    go (Some n) q =
        let f : signed l (Some n) ≡ Some o = ap (signed l) (sym q) ∙ e in
        let z : n ≡ o.node = some-node (signed l (Some n)) n o refl f in
        subst (IsThere i (length ds - i)) z (node-there i (l / 2) ds n q)
      where
        node-of : Option Operand → GateNode → GateNode
        node-of None d = d
        node-of (Some o) d = o.node

        some-node : (r : Option Operand) (n : GateNode) (o : Operand) → signed l (Some n) ≡ r → r ≡ Some o → n ≡ o.node
        some-node r n o p q = ap (λ (x : Option Operand). node-of x n) (p ∙ q)

pub outputs-there : (i n : ℕ) (ds : List ℕ) (os : List Operand) (ls : List ℕ) (out : List Operand) → AreOperandsThere i (length ds - i) os → outputs_from i ds n os ls ≡ Ok out → AreOperandsThere i (length ds - i) out × (length out ≡ length os + length ls)
outputs-there i n ds os [] out a e = let z : os ≡ out = cc in (subst (AreOperandsThere i (length ds - i)) z a, ap length (sym z) ∙ omega arith)
outputs-there i n ds os (l ∷ ls) out a e = go (operand_in i ds l) refl e (λ o. outputs-there i (n + 1) ds (os ++ o ∷ []) ls out)
  where
    go : (r : Option Operand) → operand_in i ds l ≡ r → follow_operand n r (λ o. outputs_from i ds (n + 1) (os ++ o ∷ []) ls) ≡ Ok out → ((o : Operand) → AreOperandsThere i (length ds - i) (os ++ o ∷ []) → outputs_from i ds (n + 1) (os ++ o ∷ []) ls ≡ Ok out → AreOperandsThere i (length ds - i) out × (length out ≡ length (os ++ o ∷ []) + length ls)) → AreOperandsThere i (length ds - i) out × (length out ≡ length os + length (l ∷ ls))
    go None q f ih = absurd (cc)
    go (Some o) q f ih =
        let len = length_push os o in
        let r = ih o (λ k lt. elim (cases_lt k (length os)) [
          | inl x ↦ subst (λ (y : Operand). IsThere i (length ds - i) y.node) (sym (get_or_append_left os (o ∷ []) (plain falsum) k x)) (a k x)
          | inr x ↦ subst (λ (y : Operand). IsThere i (length ds - i) y.node) (sym (get_or_push os o (plain falsum) k (omega arith))) (operand-there i l ds o q)
        ]) f in
        let s = r.1 in (r.0, omega arith)

-- the operands of these gates are there, among so many gates
abbrev pub AreAmong : ℕ → ℕ → List Gate → Type 0
AreAmong i m gs = (g : ℕ) → g < length gs → IsThere i m (get_or gs g no_gate).left.node × IsThere i m (get_or gs g no_gate).right.node

pub gates-there : (i n : ℕ) (ds : List ℕ) (gs : List Gate) (ps : List (ℕ × ℕ)) (out : List Gate) → AreAmong i (length ds - i) gs → gates_from i ds n gs ps ≡ Ok out → AreAmong i (length ds - i) out × (length out ≡ length gs + length ps)
gates-there i n ds gs [] out a e = let z : gs ≡ out = cc in (subst (AreAmong i (length ds - i)) z a, ap length (sym z) ∙ omega arith)
gates-there i n ds gs (p ∷ ps) out a e = go (operand_in i ds p.0) refl (operand_in i ds p.1) refl e (λ g. gates-there i (n + 1) ds (gs ++ g ∷ []) ps out)
  where
    go : (x : Option Operand) → operand_in i ds p.0 ≡ x → (y : Option Operand) → operand_in i ds p.1 ≡ y → follow_gate n (gate_with x y) (λ g. gates_from i ds (n + 1) (gs ++ g ∷ []) ps) ≡ Ok out → ((g : Gate) → AreAmong i (length ds - i) (gs ++ g ∷ []) → gates_from i ds (n + 1) (gs ++ g ∷ []) ps ≡ Ok out → AreAmong i (length ds - i) out × (length out ≡ length (gs ++ g ∷ []) + length ps)) → AreAmong i (length ds - i) out × (length out ≡ length gs + length (p ∷ ps))
    go None q y r f ih = absurd (cc)
    go (Some x) q None r f ih = absurd (cc)
    go (Some x) q (Some y) r f ih =
        let g : Gate = record { left = x; right = y } in
        let len : length (gs ++ g ∷ []) ≡ length gs + 1 = length_push gs g in
        let s = ih g (λ k lt. elim (cases_lt k (length gs)) [
          | inl b ↦ subst (λ (z : Gate). IsThere i (length ds - i) z.left.node × IsThere i (length ds - i) z.right.node) (sym (get_or_append_left gs (g ∷ []) no_gate k b)) (a k b)
          | inr b ↦ subst (λ (z : Gate). IsThere i (length ds - i) z.left.node × IsThere i (length ds - i) z.right.node) (sym (get_or_push gs g no_gate k (omega arith))) (operand-there i p.0 ds x q, operand-there i p.1 ds y r)
        ]) f in
        let t : length out ≡ length (gs ++ g ∷ []) + length ps = s.1 in (s.0, omega arith)

named-length : (names : List ℕ) (os : List Operand) → length names ≡ length os → length (with_names names os) ≡ length names
named-length [] [] e = refl
named-length [] (o ∷ os) e = refl
named-length (v ∷ vs) [] e = absurd (omega arith)
named-length (v ∷ vs) (o ∷ os) e = ap suc (named-length vs os (omega arith))

pub cycle-line : (bytes : List ℕ) (f : CertificateView) (g line : ℕ) → parse bytes ≡ Ok f → IsFirstCycle f.gates g → line ≡ 2 + length f.inputs + length f.outputs + g → Offence bytes line 6
cycle-line bytes f g line p c e = subst (λ n. Offence bytes n 6) (sym e) (cyclic f g p c)

pub outputs-count : (names : List ℕ) (os : List OperandCode) → length names ≡ length os → length (with_names names (operands_view os)) ≡ length names
outputs-count names os e = let len : length (map operand_view os) ≡ length os = length-map os operand_view in named-length names (operands_view os) (omega arith)

ended-few : (b : ℕ) (ls : List (List ℕ)) → length (ended (onto_first b ls)) ≤ suc (length (ended ls))
ended-few b [] = omega arith
ended-few b ([] ∷ []) = omega arith
ended-few b ((c ∷ l) ∷ []) = omega arith
ended-few b (l ∷ m ∷ ls) = omega arith

cons-few : (ls : List (List ℕ)) → length (ended ([] ∷ ls)) ≤ suc (length (ended ls))
cons-few [] = omega arith
cons-few (l ∷ ls) = omega arith

-- there are no more lines than bytes
pub lines-few : (bytes : List ℕ) → length (lines_of bytes) ≤ length bytes
lines-few [] = omega arith
lines-few (b ∷ bs) = go (eqb b 10) (lines-few bs)
  where
    go : (t : Bool) → length (ended (lines bs)) ≤ length bs → length (ended (cond t ([] ∷ lines bs) (onto_first b (lines bs)))) ≤ suc (length bs)
    go true h = let a = cons-few (lines bs) in omega arith
    go false h = let a = ended-few b (lines bs) in omega arith

pub fails-with : (bytes : List ℕ) (e : AigerError) → FailsAs e (parse bytes) → FailsWith bytes e
fails-with bytes (Refused n k) h = refused n k h
fails-with bytes NoMemory h = tt
