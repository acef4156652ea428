-- The header, as the reader and the grammar have it.
use Rattle.std.proofs.Common.{◌≡◌, ℕ, ◌+◌, ◌≤◌, ◌==◌, cond, Bool, true, false, nat_lt, List, [], ◌∷◌, refl, ap, sym, ◌∙◌, arith, subst, Option, Some, None, Result, Ok, Err}
use Rattle.std.proofs.lemmas.Bool.{eqb-true, ltb-false, le-ltb}
use Rattle.q_logic.proofs.Booleans.{both-left, both-right}
use Rattle.q_text.specs.Words.{digits}
use Rattle.q_aiger.specs.Lines.{clipped, words}
use Rattle.q_aiger.specs.Headers.{Counts, is_aag, counts_with, counts_of, Header, header_with, header_of}
use Rattle.q_aiger.specs.Grammar.{AreNumbers}

aag-is : (w : List ℕ) → is_aag w ≡ true → w ≡ 97 ∷ 97 ∷ 103 ∷ []
aag-is [] e = absurd (cc)
aag-is (a ∷ []) e = absurd (cc)
aag-is (a ∷ b ∷ []) e = absurd (cc)
aag-is (a ∷ b ∷ c ∷ []) e =
    let p = eqb-true a 97 (both-left _ _ e) in
    let e1 = both-right (a == 97) _ e in
    let q = eqb-true b 97 (both-left _ _ e1) in
    let r = eqb-true c 103 (both-right (b == 97) _ e1) in
    ap (λ (x : ℕ). x ∷ b ∷ c ∷ []) p ∙ (ap (λ (x : ℕ). 97 ∷ x ∷ c ∷ []) q ∙ ap (λ (x : ℕ). 97 ∷ 97 ∷ x ∷ []) r)
aag-is (a ∷ b ∷ c ∷ d ∷ bs) e = absurd (cc)

record AreCounts (m i l o a : Option ℕ) (c : Counts) : Type 0 where
  max : m ≡ Some c.max
  inputs : i ≡ Some c.inputs
  latches : l ≡ Some c.latches
  outputs : o ≡ Some c.outputs
  gates : a ≡ Some c.gates

counts-are : (m i l o a : Option ℕ) (c : Counts) → counts_with m i l o a ≡ Some c → AreCounts m i l o a c
counts-are None i l o a c e = absurd (cc)
counts-are (Some m) None l o a c e = absurd (cc)
counts-are (Some m) (Some i) None o a c e = absurd (cc)
counts-are (Some m) (Some i) (Some l) None a c e = absurd (cc)
counts-are (Some m) (Some i) (Some l) (Some o) None c e = absurd (cc)
counts-are (Some m) (Some i) (Some l) (Some o) (Some a) c e =
    let z : ◌≡◌ {A = Counts} (record { max = m; inputs = i; latches = l; outputs = o; gates = a }) c = cc in
    record {
      max = ap (λ (x : Counts). Some x.max) z;
      inputs = ap (λ (x : Counts). Some x.inputs) z;
      latches = ap (λ (x : Counts). Some x.latches) z;
      outputs = ap (λ (x : Counts). Some x.outputs) z;
      gates = ap (λ (x : Counts). Some x.gates) z;
    }

record IsCounted (ws : List (List ℕ)) (c : Counts) : Type 0 where
  numbers : List (List ℕ)
  spelled : ws ≡ (97 ∷ 97 ∷ 103 ∷ []) ∷ numbers
  are : AreNumbers numbers (c.max ∷ c.inputs ∷ c.latches ∷ c.outputs ∷ c.gates ∷ [])

counted : (ws : List (List ℕ)) (c : Counts) → counts_of ws ≡ Some c → IsCounted ws c
counted [] c e = absurd (cc)
counted (t ∷ []) c e = absurd (cc)
counted (t ∷ m ∷ []) c e = absurd (cc)
counted (t ∷ m ∷ i ∷ []) c e = absurd (cc)
counted (t ∷ m ∷ i ∷ l ∷ []) c e = absurd (cc)
counted (t ∷ m ∷ i ∷ l ∷ o ∷ []) c e = absurd (cc)
counted (t ∷ m ∷ i ∷ l ∷ o ∷ a ∷ []) c e = go (is_aag t) refl
  where
    go : (b : Bool) → is_aag t ≡ b → IsCounted (t ∷ m ∷ i ∷ l ∷ o ∷ a ∷ []) c
    go false p = absurd (let f : None ≡ Some c = ap (λ x. cond x (counts_with (digits m) (digits i) (digits l) (digits o) (digits a)) None) (sym p) ∙ e in cc)
    go true p =
        let f : counts_with (digits m) (digits i) (digits l) (digits o) (digits a) ≡ Some c = ap (λ x. cond x (counts_with (digits m) (digits i) (digits l) (digits o) (digits a)) None) (sym p) ∙ e in
        let r = counts-are (digits m) (digits i) (digits l) (digits o) (digits a) c f in
        record {
          numbers = m ∷ i ∷ l ∷ o ∷ a ∷ [];
          spelled = ap (λ (x : List ℕ). x ∷ m ∷ i ∷ l ∷ o ∷ a ∷ []) (aag-is t p);
          are = (r.max, (r.inputs, (r.latches, (r.outputs, (r.gates, tt)))));
        }
counted (t ∷ m ∷ i ∷ l ∷ o ∷ a ∷ x ∷ ws) c e = absurd (cc)

pub record IsHead (l : List ℕ) (h : Header) : Type 0 where
  pub outputs : ℕ
  pub numbers : List (List ℕ)
  pub spelled : words l ≡ (97 ∷ 97 ∷ 103 ∷ []) ∷ numbers
  pub are : AreNumbers numbers (h.max ∷ h.inputs ∷ 0 ∷ outputs ∷ h.gates ∷ [])
  pub clipped : h.outputs ≡ clipped outputs
  pub room : h.inputs + h.gates ≤ h.max
  pub max : h.max ≤ 268435456

pub head-read : (l : List ℕ) (h : Header) → header_of l ≡ Ok h → IsHead l h
head-read l h e = go (counts_of (words l)) refl
  where
    go : (o : Option Counts) → counts_of (words l) ≡ o → IsHead l h
    go None q = absurd (let f : Err 1 ≡ Ok h = ap header_with (sym q) ∙ e in cc)
    go (Some c) q = tests (nat_lt c.max (c.inputs + c.latches + c.gates)) refl (nat_lt 0 c.latches) refl (nat_lt 268435456 c.max) refl
      where
        full : Header
        full = record { max = c.max; inputs = c.inputs; outputs = clipped c.outputs; gates = c.gates }

        f : header_with (Some c) ≡ Ok h
        f = ap header_with (sym q) ∙ e

        tests : (x : Bool) → nat_lt c.max (c.inputs + c.latches + c.gates) ≡ x → (y : Bool) → nat_lt 0 c.latches ≡ y → (z : Bool) → nat_lt 268435456 c.max ≡ z → IsHead l h
        tests true p y r z s = absurd (let g : Err 1 ≡ Ok h = ap (λ x. cond x (Err 1) (cond (nat_lt 0 c.latches) (Err 3) (cond (nat_lt 268435456 c.max) (Err 9) (Ok (record { max = c.max; inputs = c.inputs; outputs = clipped c.outputs; gates = c.gates }))))) (sym p) ∙ f in cc)
        tests false p true r z s = absurd (let g : Err 3 ≡ Ok h = ap (λ x. cond x (Err 3) (cond (nat_lt 268435456 c.max) (Err 9) (Ok (record { max = c.max; inputs = c.inputs; outputs = clipped c.outputs; gates = c.gates })))) (sym r) ∙ (ap (λ x. cond x (Err 1) (cond (nat_lt 0 c.latches) (Err 3) (cond (nat_lt 268435456 c.max) (Err 9) (Ok (record { max = c.max; inputs = c.inputs; outputs = clipped c.outputs; gates = c.gates }))))) (sym p) ∙ f) in cc)
        tests false p false r true s = absurd (let g : Err 9 ≡ Ok h = ap (λ x. cond x (Err 9) (Ok (record { max = c.max; inputs = c.inputs; outputs = clipped c.outputs; gates = c.gates }))) (sym s) ∙ (ap (λ x. cond x (Err 3) (cond (nat_lt 268435456 c.max) (Err 9) (Ok (record { max = c.max; inputs = c.inputs; outputs = clipped c.outputs; gates = c.gates })))) (sym r) ∙ (ap (λ x. cond x (Err 1) (cond (nat_lt 0 c.latches) (Err 3) (cond (nat_lt 268435456 c.max) (Err 9) (Ok (record { max = c.max; inputs = c.inputs; outputs = clipped c.outputs; gates = c.gates }))))) (sym p) ∙ f)) in cc)
        tests false p false r false s =
            let g : Ok (record { max = c.max; inputs = c.inputs; outputs = clipped c.outputs; gates = c.gates }) ≡ Ok h = ap (λ x. cond x (Err 9) (Ok (record { max = c.max; inputs = c.inputs; outputs = clipped c.outputs; gates = c.gates }))) (sym s) ∙ (ap (λ x. cond x (Err 3) (cond (nat_lt 268435456 c.max) (Err 9) (Ok (record { max = c.max; inputs = c.inputs; outputs = clipped c.outputs; gates = c.gates })))) (sym r) ∙ (ap (λ x. cond x (Err 1) (cond (nat_lt 0 c.latches) (Err 3) (cond (nat_lt 268435456 c.max) (Err 9) (Ok (record { max = c.max; inputs = c.inputs; outputs = clipped c.outputs; gates = c.gates }))))) (sym p) ∙ f)) in
            let z : ◌≡◌ {A = Header} (record { max = c.max; inputs = c.inputs; outputs = clipped c.outputs; gates = c.gates }) h = cc in
            let k = counted (words l) c q in
            let none : c.latches ≡ 0 = (let w = ltb-false 0 c.latches r in omega arith) in
            let room : c.inputs + c.latches + c.gates ≤ c.max = ltb-false c.max (c.inputs + c.latches + c.gates) p in
            subst (IsHead l) z (record {
              outputs = c.outputs;
              numbers = k.numbers;
              spelled = k.spelled;
              are = subst (λ (n : ℕ). AreNumbers k.numbers (c.max ∷ c.inputs ∷ n ∷ c.outputs ∷ c.gates ∷ [])) none k.are;
              clipped = refl;
              room = omega arith;
              max = ltb-false 268435456 c.max s;
            })

-- The other way.
numbers-counted : (ws : List (List ℕ)) (m i o a : ℕ) → AreNumbers ws (m ∷ i ∷ 0 ∷ o ∷ a ∷ []) → counts_of ((97 ∷ 97 ∷ 103 ∷ []) ∷ ws) ≡ Some (record { max = m; inputs = i; latches = 0; outputs = o; gates = a })
numbers-counted [] m i o a h = absurd h
numbers-counted (u ∷ []) m i o a h = absurd h.1
numbers-counted (u ∷ v ∷ []) m i o a h = absurd h.1.1
numbers-counted (u ∷ v ∷ w ∷ []) m i o a h = absurd h.1.1.1
numbers-counted (u ∷ v ∷ w ∷ x ∷ []) m i o a h = absurd h.1.1.1.1
numbers-counted (u ∷ v ∷ w ∷ x ∷ y ∷ []) m i o a h =
    ap (λ n. counts_with n (digits v) (digits w) (digits x) (digits y)) h.0
    ∙ (ap (λ n. counts_with (Some m) n (digits w) (digits x) (digits y)) h.1.0
    ∙ (ap (λ n. counts_with (Some m) (Some i) n (digits x) (digits y)) h.1.1.0
    ∙ (ap (λ n. counts_with (Some m) (Some i) (Some 0) n (digits y)) h.1.1.1.0
    ∙ ap (λ n. counts_with (Some m) (Some i) (Some 0) (Some o) n) h.1.1.1.1.0)))
numbers-counted (u ∷ v ∷ w ∷ x ∷ y ∷ z ∷ ws) m i o a h = absurd h.1.1.1.1.1

pub read-head : (l : List ℕ) (ws : List (List ℕ)) (m i o a : ℕ) → words l ≡ (97 ∷ 97 ∷ 103 ∷ []) ∷ ws → AreNumbers ws (m ∷ i ∷ 0 ∷ o ∷ a ∷ []) → i + a ≤ m → m ≤ 268435456 → o ≤ 576460752303423488 → header_of l ≡ Ok (record { max = m; inputs = i; outputs = o; gates = a })
read-head l ws m i o a s h room max few =
    let n = numbers-counted ws m i o a h in
    let p = le-ltb m (i + 0 + a) (omega arith) in
    let q = le-ltb 268435456 m max in
    let z : clipped o ≡ o = omega arith in
    ap (λ x. header_with (counts_of x)) s
    ∙ (ap header_with n
    ∙ (ap (λ x. cond x (Err 1) (cond (nat_lt 268435456 m) (Err 9) (Ok (record { max = m; inputs = i; outputs = clipped o; gates = a })))) p
    ∙ (ap (λ x. cond x (Err 9) (Ok (record { max = m; inputs = i; outputs = clipped o; gates = a }))) q
    ∙ ap (λ (k : ℕ). let y : Result Header ℕ = Ok (record { max = m; inputs = i; outputs = k; gates = a }) in y) z)))
