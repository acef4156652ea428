-- One line of an input, an output or a gate: what the reader answers.
use Rattle.std.proofs.Common.{◌≡◌, inl, inr, ℕ, ◌+◌, ◌*◌, ◌/◌, ◌%◌, ◌≤◌, ◌==◌, ◌&&◌, Bool, true, false, cond, eqb, nat_le, is_some, List, [], ◌∷◌, ◌++◌, refl, ap, sym, ◌∙◌, arith, subst, Option, Some, None, Result, Ok, Err, if◌then◌else◌}
use Rattle.std.proofs.lemmas.Bool.Decides.{nat_tests}
use Rattle.std.proofs.lemmas.Bool.{leb-true, eqb-true}
use Rattle.q_logic.proofs.Booleans.{both-left, both-right}
use Rattle.q_aiger.specs.Lines.{words}
use Rattle.q_aiger.specs.Headers.{Header}
use Rattle.q_aiger.specs.Items.{Items, place_of, raised, is_left, is_right, one_number, three_numbers, with_input, with_output, with_gate}
use Rattle.q_aiger.specs.Grammar.{Definition, AreNumbers, IsVar, IsLiteral}
use Rattle.q_aiger.proofs.NumberLines.{one-line, line-one, three-line, line-three}
use Rattle.q_offences.specs.CircuitTable.{IsInput, IsOutput, IsGateLine, IsAmong}

-- numbers on the left and on the right

even-is : (l : ℕ) → (l % 2 == 0) ≡ true → 2 * (l / 2) ≡ l
even-is l e = let z : l % 2 ≡ 0 = zero-is (l % 2) e in omega arith
  where
    zero-is : (a : ℕ) → (a == 0) ≡ true → a ≡ 0
    zero-is a e = grind arith

record IsLeft (max l : ℕ) : Type 0 where
  low : 2 ≤ l
  high : l ≤ 2 * max
  even : 2 * (l / 2) ≡ l

left-is : (max l : ℕ) → is_left max l ≡ true → IsLeft max l
left-is max l e =
    let a : nat_le 2 l ≡ true = both-left _ _ e in
    let e1 = both-right (nat_le 2 l) _ e in
    let b : nat_le l (2 * max) ≡ true = both-left _ _ e1 in
    record { low = leb-true 2 l a; high = leb-true l (2 * max) b; even = even-is l (both-right (nat_le l (2 * max)) _ e1) }

is-left : (max v : ℕ) → IsVar max v → is_left max (2 * v) ≡ true
is-left max v h =
    let low : 1 ≤ v = h.0 in
    let high : v ≤ max = h.1 in
    let a : nat_le 2 (2 * v) ≡ true = le-true 2 (2 * v) (omega arith) in
    let b : nat_le (2 * v) (2 * max) ≡ true = le-true (2 * v) (2 * max) (omega arith) in
    let z : (2 * v) % 2 ≡ 0 = omega arith in
    let c : ((2 * v) % 2 == 0) ≡ true = ap (λ k. k == 0) z in
    rw (a, b, c) refl
  where
    le-true : (a b : ℕ) → a ≤ b → nat_le a b ≡ true
    le-true a b h = grind (arith, nat_tests)

right-is : (max l : ℕ) → is_right max l ≡ true → IsLiteral max l
right-is max l e = leb-true l (2 * max + 1) e

is-right : (max l : ℕ) → IsLiteral max l → is_right max l ≡ true
is-right max l h = grind (arith, nat_tests)

half : (v : ℕ) → (2 * v) / 2 ≡ v
half v = omega arith

-- variables that are defined

raised-some : (o : Option ℕ) → is_some (raised o) ≡ is_some o
raised-some None = refl
raised-some (Some k) = refl

pub among-place : (ds : List ℕ) (v : ℕ) → IsAmong v ds → is_some (place_of ds v) ≡ true
among-place [] v h = absurd h
among-place (d ∷ ds) v (inl e) = let f : eqb d v ≡ true = grind arith in ap (λ b. is_some (cond b (Some 0) (raised (place_of ds v)))) f
among-place (d ∷ ds) v (inr h) = go (eqb d v) (raised-some (place_of ds v) ∙ among-place ds v h) where
  go : (b : Bool) → is_some (raised (place_of ds v)) ≡ true → is_some (cond b (Some 0) (raised (place_of ds v))) ≡ true
  go true e = refl
  go false e = e

pub place-among : (ds : List ℕ) (v : ℕ) → is_some (place_of ds v) ≡ true → IsAmong v ds
place-among [] v e = cc
place-among (d ∷ ds) v e = go (eqb d v) refl e (place-among ds v) where
  go : (b : Bool) → eqb d v ≡ b → is_some (cond b (Some 0) (raised (place_of ds v))) ≡ true → (is_some (place_of ds v) ≡ true → IsAmong v ds) → IsAmong v (d ∷ ds)
  go true p f ih = inl (eqb-true d v p)
  go false p f ih = inr (ih (sym (raised-some (place_of ds v)) ∙ f))

-- inputs

-- what is of the form of an input is taken, or defined twice
input-answer : (h : Header) (s : Items) (l : List ℕ) (v : ℕ) → h.max ≤ 268435456 → IsInput h.max l v
    → with_input h s (one_number (words l)) ≡ (if is_some (place_of s.defined v) then Err 4 else Ok (record s { defined = s.defined ++ v ∷ [] }))
input-answer h s l v small i =
    let high : v ≤ h.max = i.1.1 in
    let o : one_number (words l) ≡ Some (2 * v) = line-one (words l) (2 * v) i.0 (omega arith) in
    let e = is-left h.max v i.1 in
    let z = half v in
    ap (with_input h s) o ∙ rw (e, z) refl

pub input-twice : (h : Header) (s : Items) (l : List ℕ) (v : ℕ) → h.max ≤ 268435456 → IsInput h.max l v → IsAmong v s.defined → with_input h s (one_number (words l)) ≡ Err 4
input-twice h s l v small i a = input-answer h s l v small i ∙ ap (λ b. cond {A = Result Items ℕ} b (Err 4) (Ok (record s { defined = s.defined ++ v ∷ [] }))) (among-place s.defined v a)

pub input-new : (h : Header) (s : Items) (l : List ℕ) (v : ℕ) → h.max ≤ 268435456 → IsInput h.max l v → ¬ IsAmong v s.defined → with_input h s (one_number (words l)) ≡ Ok (record s { defined = s.defined ++ v ∷ [] })
input-new h s l v small i n = input-answer h s l v small i ∙ go (is_some (place_of s.defined v)) refl where
  go : (b : Bool) → is_some (place_of s.defined v) ≡ b → cond {A = Result Items ℕ} b (Err 4) (Ok (record s { defined = s.defined ++ v ∷ [] })) ≡ Ok (record s { defined = s.defined ++ v ∷ [] })
  go true e = absurd (n (place-among s.defined v e))
  go false e = refl

-- the answer says what the line is
pub data InputSaid (max : ℕ) (s : Items) (l : List ℕ) : Result Items ℕ → Type 0 where
  no_input : ((v : ℕ) → ¬ IsInput max l v) → InputSaid max s l (Err 2)
  input_twice : (v : ℕ) → IsInput max l v → IsAmong v s.defined → InputSaid max s l (Err 4)
  input_new : (v : ℕ) → IsInput max l v → ¬ IsAmong v s.defined → InputSaid max s l (Ok (record s { defined = s.defined ++ v ∷ [] }))

two-four : {X : Type 0} (s : Items) (r : Result Items ℕ) (b : Bool) → r ≡ Err 2 → r ≡ cond {A = Result Items ℕ} b (Err 4) (Ok s) → X
two-four s r true e f = absurd (let g : ◌≡◌ {A = Result Items ℕ} (Err 2) (Err 4) = sym e ∙ f in let h : ◌≡◌ {A = ℕ} 2 4 = cc in omega (arith, h))
two-four s r false e f = absurd (let g : ◌≡◌ {A = Result Items ℕ} (Err 2) (Ok s) = sym e ∙ f in cc)

not-input : (h : Header) (s : Items) (l : List ℕ) → h.max ≤ 268435456 → with_input h s (one_number (words l)) ≡ Err 2 → (v : ℕ) → ¬ IsInput h.max l v
not-input h s l small e v i = two-four (record s { defined = s.defined ++ v ∷ [] }) (with_input h s (one_number (words l))) (is_some (place_of s.defined v)) e (input-answer h s l v small i)

pub input-said : (h : Header) (s : Items) (l : List ℕ) → h.max ≤ 268435456 → InputSaid h.max s l (with_input h s (one_number (words l)))
input-said h s l small = number (one_number (words l)) refl where
  number : (o : Option ℕ) → one_number (words l) ≡ o → InputSaid h.max s l (with_input h s (one_number (words l)))
  number None q = let e = ap (with_input h s) q in subst (InputSaid h.max s l) (sym e) (no_input (not-input h s l small e))
  number (Some x) q = go (is_left h.max x) refl (is_some (place_of s.defined (x / 2))) refl where
    go : (a : Bool) → is_left h.max x ≡ a → (b : Bool) → is_some (place_of s.defined (x / 2)) ≡ b → InputSaid h.max s l (with_input h s (one_number (words l)))
    go false p b r = let e : with_input h s (one_number (words l)) ≡ Err 2 = ap (with_input h s) q ∙ rw p refl in subst (InputSaid h.max s l) (sym e) (no_input (not-input h s l small e))
    go true p b r = by b r where
      by : (b : Bool) → is_some (place_of s.defined (x / 2)) ≡ b → InputSaid h.max s l (with_input h s (one_number (words l)))
      by true r =
          let low : 2 ≤ x = (left-is h.max x p).low in
          let high : x ≤ 2 * h.max = (left-is h.max x p).high in
          let even : 2 * (x / 2) ≡ x = (left-is h.max x p).even in
          let f : IsInput h.max l (x / 2) = (subst (λ (k : ℕ). AreNumbers (words l) (k ∷ [])) (sym even) (one-line (words l) x q (omega arith)), (omega arith, omega arith)) in
          let a = place-among s.defined (x / 2) r in
          subst (InputSaid h.max s l) (sym (input-twice h s l (x / 2) small f a)) (input_twice (x / 2) f a)
      by false r =
          let low : 2 ≤ x = (left-is h.max x p).low in
          let high : x ≤ 2 * h.max = (left-is h.max x p).high in
          let even : 2 * (x / 2) ≡ x = (left-is h.max x p).even in
          let f : IsInput h.max l (x / 2) = (subst (λ (k : ℕ). AreNumbers (words l) (k ∷ [])) (sym even) (one-line (words l) x q (omega arith)), (omega arith, omega arith)) in
          let n : ¬ IsAmong (x / 2) s.defined = λ a. (let t = among-place s.defined (x / 2) a in let u : true ≡ false = sym t ∙ r in cc) in
          subst (InputSaid h.max s l) (sym (input-new h s l (x / 2) small f n)) (input_new (x / 2) f n)

-- outputs

pub output-new : (h : Header) (s : Items) (l : List ℕ) (x : ℕ) → h.max ≤ 268435456 → IsOutput h.max l x → with_output h s (one_number (words l)) ≡ Ok (record s { outputs = s.outputs ++ x ∷ [] })
output-new h s l x small i =
    let high : x ≤ 2 * h.max + 1 = i.1 in
    let o : one_number (words l) ≡ Some x = line-one (words l) x i.0 (omega arith) in
    ap (with_output h s) o ∙ rw (is-right h.max x i.1) refl

pub data OutputSaid (max : ℕ) (s : Items) (l : List ℕ) : Result Items ℕ → Type 0 where
  no_output : ((x : ℕ) → ¬ IsOutput max l x) → OutputSaid max s l (Err 2)
  output_new : (x : ℕ) → IsOutput max l x → OutputSaid max s l (Ok (record s { outputs = s.outputs ++ x ∷ [] }))

not-output : (h : Header) (s : Items) (l : List ℕ) → h.max ≤ 268435456 → with_output h s (one_number (words l)) ≡ Err 2 → (x : ℕ) → ¬ IsOutput h.max l x
not-output h s l small e x i = two-four (record s { outputs = s.outputs ++ x ∷ [] }) (with_output h s (one_number (words l))) false e (output-new h s l x small i)

pub output-said : (h : Header) (s : Items) (l : List ℕ) → h.max ≤ 268435456 → OutputSaid h.max s l (with_output h s (one_number (words l)))
output-said h s l small = number (one_number (words l)) refl where
  number : (o : Option ℕ) → one_number (words l) ≡ o → OutputSaid h.max s l (with_output h s (one_number (words l)))
  number None q = let e = ap (with_output h s) q in subst (OutputSaid h.max s l) (sym e) (no_output (not-output h s l small e))
  number (Some x) q = go (is_right h.max x) refl where
    go : (a : Bool) → is_right h.max x ≡ a → OutputSaid h.max s l (with_output h s (one_number (words l)))
    go false p = let e : with_output h s (one_number (words l)) ≡ Err 2 = ap (with_output h s) q ∙ rw p refl in subst (OutputSaid h.max s l) (sym e) (no_output (not-output h s l small e))
    go true p =
        let i : x ≤ 2 * h.max + 1 = right-is h.max x p in
        let f : IsOutput h.max l x = (one-line (words l) x q (omega arith), right-is h.max x p) in
        subst (OutputSaid h.max s l) (sym (output-new h s l x small f)) (output_new x f)

-- gates

abbrev pub more_gate : Items → Definition → Items
more_gate s d = record { defined = s.defined ++ d.var ∷ []; outputs = s.outputs; operands = s.operands ++ (d.left, d.right) ∷ [] }

gate-answer : (h : Header) (s : Items) (l : List ℕ) (d : Definition) → h.max ≤ 268435456 → IsGateLine h.max l d
    → with_gate h s (three_numbers (words l)) ≡ (if is_some (place_of s.defined d.var) then Err 4 else Ok (more_gate s d))
gate-answer h s l d small i =
    let high : d.var ≤ h.max = i.1.0.1 in
    let ra : d.left ≤ 2 * h.max + 1 = i.1.1 in
    let rb : d.right ≤ 2 * h.max + 1 = i.1.2 in
    let o : three_numbers (words l) ≡ Some (2 * d.var, d.left, d.right) = line-three (words l) (2 * d.var) d.left d.right i.0 (omega arith) (omega arith) (omega arith) in
    let e = is-left h.max d.var i.1.0 in
    let f = is-right h.max d.left i.1.1 in
    let g = is-right h.max d.right i.1.2 in
    let z = half d.var in
    ap (with_gate h s) o ∙ rw (e, f, g, z) refl

pub gate-twice : (h : Header) (s : Items) (l : List ℕ) (d : Definition) → h.max ≤ 268435456 → IsGateLine h.max l d → IsAmong d.var s.defined → with_gate h s (three_numbers (words l)) ≡ Err 4
gate-twice h s l d small i a = gate-answer h s l d small i ∙ ap (λ b. cond {A = Result Items ℕ} b (Err 4) (Ok (more_gate s d))) (among-place s.defined d.var a)

pub gate-new : (h : Header) (s : Items) (l : List ℕ) (d : Definition) → h.max ≤ 268435456 → IsGateLine h.max l d → ¬ IsAmong d.var s.defined → with_gate h s (three_numbers (words l)) ≡ Ok (more_gate s d)
gate-new h s l d small i n = gate-answer h s l d small i ∙ go (is_some (place_of s.defined d.var)) refl where
  go : (b : Bool) → is_some (place_of s.defined d.var) ≡ b → cond {A = Result Items ℕ} b (Err 4) (Ok (more_gate s d)) ≡ Ok (more_gate s d)
  go true e = absurd (n (place-among s.defined d.var e))
  go false e = refl

pub data GateSaid (max : ℕ) (s : Items) (l : List ℕ) : Result Items ℕ → Type 0 where
  no_gate_line : ((d : Definition) → ¬ IsGateLine max l d) → GateSaid max s l (Err 2)
  gate_twice : (d : Definition) → IsGateLine max l d → IsAmong d.var s.defined → GateSaid max s l (Err 4)
  gate_new : (d : Definition) → IsGateLine max l d → ¬ IsAmong d.var s.defined → GateSaid max s l (Ok (more_gate s d))

not-gate : (h : Header) (s : Items) (l : List ℕ) → h.max ≤ 268435456 → with_gate h s (three_numbers (words l)) ≡ Err 2 → (d : Definition) → ¬ IsGateLine h.max l d
not-gate h s l small e d i = two-four (more_gate s d) (with_gate h s (three_numbers (words l))) (is_some (place_of s.defined d.var)) e (gate-answer h s l d small i)

pub gate-said : (h : Header) (s : Items) (l : List ℕ) → h.max ≤ 268435456 → GateSaid h.max s l (with_gate h s (three_numbers (words l)))
gate-said h s l small = number (three_numbers (words l)) refl where
  number : (o : Option (ℕ × ℕ × ℕ)) → three_numbers (words l) ≡ o → GateSaid h.max s l (with_gate h s (three_numbers (words l)))
  number None q = let e = ap (with_gate h s) q in subst (GateSaid h.max s l) (sym e) (no_gate_line (not-gate h s l small e))
  number (Some (x, a, b)) q = go (is_left h.max x && (is_right h.max a && is_right h.max b)) refl where
    go : (t : Bool) → is_left h.max x && (is_right h.max a && is_right h.max b) ≡ t → GateSaid h.max s l (with_gate h s (three_numbers (words l)))
    go false p = let e : with_gate h s (three_numbers (words l)) ≡ Err 2 = ap (with_gate h s) q ∙ rw p refl in subst (GateSaid h.max s l) (sym e) (no_gate_line (not-gate h s l small e))
    go true p =
        let i = left-is h.max x (both-left _ _ p) in
        let low : 2 ≤ x = i.low in
        let high : x ≤ 2 * h.max = i.high in
        let even : 2 * (x / 2) ≡ x = i.even in
        let p1 = both-right (is_left h.max x) _ p in
        let ra : a ≤ 2 * h.max + 1 = right-is h.max a (both-left _ _ p1) in
        let rb : b ≤ 2 * h.max + 1 = right-is h.max b (both-right (is_right h.max a) _ p1) in
        by (record { var = x / 2; left = a; right = b }) (subst (λ (k : ℕ). AreNumbers (words l) (k ∷ a ∷ b ∷ [])) (sym even) (three-line (words l) x a b q (omega arith) (omega arith) (omega arith)), ((omega arith, omega arith), ra, rb)) where
          by : (d : Definition) → IsGateLine h.max l d → GateSaid h.max s l (with_gate h s (three_numbers (words l)))
          by d f = fin (is_some (place_of s.defined d.var)) refl where
            fin : (t : Bool) → is_some (place_of s.defined d.var) ≡ t → GateSaid h.max s l (with_gate h s (three_numbers (words l)))
            fin true r = let a = place-among s.defined d.var r in subst (GateSaid h.max s l) (sym (gate-twice h s l d small f a)) (gate_twice d f a)
            fin false r =
                let n : ¬ IsAmong d.var s.defined = λ a. (let t = among-place s.defined d.var a in let u : true ≡ false = sym t ∙ r in cc) in
                subst (GateSaid h.max s l) (sym (gate-new h s l d small f n)) (gate_new d f n)
