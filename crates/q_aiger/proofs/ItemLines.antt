-- The lines of inputs, outputs and gates: what the reader takes of them is what the grammar has.
use Rattle.std.proofs.Common.{◌≡◌, ◌≢◌, ℕ, ◌+◌, ◌*◌, ◌/◌, ◌%◌, ◌<◌, ◌≤◌, ◌==◌, ◌&&◌, Bool, true, false, cond, nat_lt, nat_le, is_some, List, [], ◌∷◌, ◌++◌, length, get_or, refl, ap, sym, ◌∙◌, arith, subst, Option, Some, None, Ok, Err}
use Rattle.std.proofs.lemmas.Bool.Decides.{nat_tests}
use Rattle.std.proofs.lemmas.Bool.{leb-true}
use Rattle.q_logic.proofs.Booleans.{both-left, both-right}
use Rattle.q_aiger.specs.Headers.{Header}
use Rattle.q_aiger.specs.Items.{Items, place_of, is_left, is_right, one_number, three_numbers, with_input, with_output, with_gate, with_line}
use Rattle.q_aiger.specs.Grammar.{Definition, AreNumbers, IsVar, IsLiteral, IsDefinition}
use Rattle.q_aiger.proofs.NumberLines.{one-line, line-one, three-line, line-three}
use Rattle.q_aiger.proofs.DefinedPlaces.{none-there, place-none, fresh}

abbrev pub st : List ℕ → List ℕ → List (ℕ × ℕ) → Items
st ds os ps = record { defined = ds; outputs = os; operands = ps }

even-is : (l : ℕ) → (l % 2 == 0) ≡ true → 2 * (l / 2) ≡ l
even-is l e = let z : l % 2 ≡ 0 = zero-is (l % 2) e in omega arith
  where
    zero-is : (a : ℕ) → (a == 0) ≡ true → a ≡ 0
    zero-is a e = grind arith

record IsLeft (max l : ℕ) : Type 0 where
  low : 2 ≤ l
  high : l ≤ 2 * max
  even : 2 * (l / 2) ≡ l

left-is : (max l : ℕ) → is_left max l ≡ true → IsLeft max l
left-is max l e =
    let a : nat_le 2 l ≡ true = both-left _ _ e in
    let e1 = both-right (nat_le 2 l) _ e in
    let b : nat_le l (2 * max) ≡ true = both-left _ _ e1 in
    record { low = leb-true 2 l a; high = leb-true l (2 * max) b; even = even-is l (both-right (nat_le l (2 * max)) _ e1) }

is-left : (max v : ℕ) → IsVar max v → is_left max (2 * v) ≡ true
is-left max v h =
    let low : 1 ≤ v = h.0 in
    let high : v ≤ max = h.1 in
    let a : nat_le 2 (2 * v) ≡ true = le-true 2 (2 * v) (omega arith) in
    let b : nat_le (2 * v) (2 * max) ≡ true = le-true (2 * v) (2 * max) (omega arith) in
    let z : (2 * v) % 2 ≡ 0 = omega arith in
    let c : ((2 * v) % 2 == 0) ≡ true = ap (λ k. k == 0) z in
    rw (a, b, c) refl
  where
    le-true : (a b : ℕ) → a ≤ b → nat_le a b ≡ true
    le-true a b h = grind (arith, nat_tests)

right-is : (max l : ℕ) → is_right max l ≡ true → IsLiteral max l
right-is max l e = leb-true l (2 * max + 1) e

is-right : (max l : ℕ) → IsLiteral max l → is_right max l ≡ true
is-right max l h = grind (arith, nat_tests)

half : (v : ℕ) → (2 * v) / 2 ≡ v
half v = omega arith

-- which kind of line comes next
pub line-input : (h : Header) (s : Items) (ws : List (List ℕ)) → nat_lt (length s.defined) h.inputs ≡ true → with_line h s ws ≡ with_input h s (one_number ws)
line-input h s ws e = ap (λ x. cond x (with_input h s (one_number ws)) (cond (nat_lt (length s.outputs) h.outputs) (with_output h s (one_number ws)) (with_gate h s (three_numbers ws)))) e

pub line-output : (h : Header) (s : Items) (ws : List (List ℕ)) → nat_lt (length s.defined) h.inputs ≡ false → nat_lt (length s.outputs) h.outputs ≡ true → with_line h s ws ≡ with_output h s (one_number ws)
line-output h s ws e f =
    ap (λ x. cond x (with_input h s (one_number ws)) (cond (nat_lt (length s.outputs) h.outputs) (with_output h s (one_number ws)) (with_gate h s (three_numbers ws)))) e
    ∙ ap (λ x. cond x (with_output h s (one_number ws)) (with_gate h s (three_numbers ws))) f

pub line-gate : (h : Header) (s : Items) (ws : List (List ℕ)) → nat_lt (length s.defined) h.inputs ≡ false → nat_lt (length s.outputs) h.outputs ≡ false → with_line h s ws ≡ with_gate h s (three_numbers ws)
line-gate h s ws e f =
    ap (λ x. cond x (with_input h s (one_number ws)) (cond (nat_lt (length s.outputs) h.outputs) (with_output h s (one_number ws)) (with_gate h s (three_numbers ws)))) e
    ∙ ap (λ x. cond x (with_output h s (one_number ws)) (with_gate h s (three_numbers ws))) f

-- One line.
pub record InputTaken (h : Header) (ds : List ℕ) (ws : List (List ℕ)) (t : Items) : Type 0 where
  pub var : ℕ
  pub spelled : AreNumbers ws (2 * var ∷ [])
  pub bounds : IsVar h.max var
  pub new : (k : ℕ) → k < length ds → get_or ds k 0 ≢ var
  pub is : t ≡ st (ds ++ var ∷ []) [] []

pub input-taken : (h : Header) (ds : List ℕ) (ws : List (List ℕ)) (t : Items) → h.max ≤ 268435456 → with_input h (st ds [] []) (one_number ws) ≡ Ok t → InputTaken h ds ws t
input-taken h ds ws t small e = number (one_number ws) refl
  where
    number : (o : Option ℕ) → one_number ws ≡ o → InputTaken h ds ws t
    number None q = absurd (let f : Err 2 ≡ Ok t = ap (with_input h (st ds [] [])) (sym q) ∙ e in cc)
    number (Some l) q = go (is_left h.max l) refl (is_some (place_of ds (l / 2))) refl
      where
        g : with_input h (st ds [] []) (Some l) ≡ Ok t
        g = ap (with_input h (st ds [] [])) (sym q) ∙ e

        go : (a : Bool) → is_left h.max l ≡ a → (b : Bool) → is_some (place_of ds (l / 2)) ≡ b → InputTaken h ds ws t
        go false p b r = absurd (let f : Err 2 ≡ Ok t = ap (λ x. cond x (cond (is_some (place_of ds (l / 2))) (Err 4) (Ok (st (ds ++ (l / 2) ∷ []) [] []))) (Err 2)) (sym p) ∙ g in cc)
        go true p true r = absurd (let f : Err 4 ≡ Ok t = ap (λ x. cond x (Err 4) (Ok (st (ds ++ (l / 2) ∷ []) [] []))) (sym r) ∙ (ap (λ x. cond x (cond (is_some (place_of ds (l / 2))) (Err 4) (Ok (st (ds ++ (l / 2) ∷ []) [] []))) (Err 2)) (sym p) ∙ g) in cc)
        go true p false r =
            let f : Ok (st (ds ++ (l / 2) ∷ []) [] []) ≡ Ok t = ap (λ x. cond x (Err 4) (Ok (st (ds ++ (l / 2) ∷ []) [] []))) (sym r) ∙ (ap (λ x. cond x (cond (is_some (place_of ds (l / 2))) (Err 4) (Ok (st (ds ++ (l / 2) ∷ []) [] []))) (Err 2)) (sym p) ∙ g) in
            let z : st (ds ++ (l / 2) ∷ []) [] [] ≡ t = cc in
            let i = left-is h.max l p in
            let low : 2 ≤ l = i.low in
            let high : l ≤ 2 * h.max = i.high in
            let even : 2 * (l / 2) ≡ l = i.even in
            record {
              var = l / 2;
              spelled = subst (λ (k : ℕ). AreNumbers ws (k ∷ [])) (sym even) (one-line ws l q (omega arith));
              bounds = (omega arith, omega arith);
              new = place-none ds (l / 2) (none-there ds (l / 2) r);
              is = sym z;
            }

pub input-takes : (h : Header) (ds : List ℕ) (ws : List (List ℕ)) (v : ℕ) → h.max ≤ 268435456 → AreNumbers ws (2 * v ∷ []) → IsVar h.max v → ((k : ℕ) → k < length ds → get_or ds k 0 ≢ v) → with_input h (st ds [] []) (one_number ws) ≡ Ok (st (ds ++ v ∷ []) [] [])
input-takes h ds ws v small s b n =
    let high : v ≤ h.max = b.1 in
    let o : one_number ws ≡ Some (2 * v) = line-one ws (2 * v) s (omega arith) in
    let i = is-left h.max v b in
    let z = half v in
    let f = fresh ds v n in
    ap (with_input h (st ds [] [])) o ∙ rw (i, z, f) refl

pub record OutputTaken (h : Header) (ds os : List ℕ) (ws : List (List ℕ)) (t : Items) : Type 0 where
  pub lit : ℕ
  pub spelled : AreNumbers ws (lit ∷ [])
  pub bounds : IsLiteral h.max lit
  pub is : t ≡ st ds (os ++ lit ∷ []) []

pub output-taken : (h : Header) (ds os : List ℕ) (ws : List (List ℕ)) (t : Items) → h.max ≤ 268435456 → with_output h (st ds os []) (one_number ws) ≡ Ok t → OutputTaken h ds os ws t
output-taken h ds os ws t small e = number (one_number ws) refl
  where
    number : (o : Option ℕ) → one_number ws ≡ o → OutputTaken h ds os ws t
    number None q = absurd (let f : Err 2 ≡ Ok t = ap (with_output h (st ds os [])) (sym q) ∙ e in cc)
    number (Some l) q = go (is_right h.max l) refl
      where
        g : with_output h (st ds os []) (Some l) ≡ Ok t
        g = ap (with_output h (st ds os [])) (sym q) ∙ e

        go : (a : Bool) → is_right h.max l ≡ a → OutputTaken h ds os ws t
        go false p = absurd (let f : Err 2 ≡ Ok t = ap (λ x. cond x (Ok (st ds (os ++ l ∷ []) [])) (Err 2)) (sym p) ∙ g in cc)
        go true p =
            let f : Ok (st ds (os ++ l ∷ []) []) ≡ Ok t = ap (λ x. cond x (Ok (st ds (os ++ l ∷ []) [])) (Err 2)) (sym p) ∙ g in
            let z : st ds (os ++ l ∷ []) [] ≡ t = cc in
            let i : l ≤ 2 * h.max + 1 = right-is h.max l p in
            record { lit = l; spelled = one-line ws l q (omega arith); bounds = i; is = sym z }

pub output-takes : (h : Header) (ds os : List ℕ) (ws : List (List ℕ)) (l : ℕ) → h.max ≤ 268435456 → AreNumbers ws (l ∷ []) → IsLiteral h.max l → with_output h (st ds os []) (one_number ws) ≡ Ok (st ds (os ++ l ∷ []) [])
output-takes h ds os ws l small s b =
    let high : l ≤ 2 * h.max + 1 = b in
    let o : one_number ws ≡ Some l = line-one ws l s (omega arith) in
    ap (with_output h (st ds os [])) o ∙ rw (is-right h.max l b) refl

pub record GateTaken (h : Header) (ds os : List ℕ) (ps : List (ℕ × ℕ)) (ws : List (List ℕ)) (t : Items) : Type 0 where
  pub gate : Definition
  pub spelled : AreNumbers ws (2 * gate.var ∷ gate.left ∷ gate.right ∷ [])
  pub bounds : IsDefinition h.max gate
  pub new : (k : ℕ) → k < length ds → get_or ds k 0 ≢ gate.var
  pub is : t ≡ st (ds ++ gate.var ∷ []) os (ps ++ (gate.left, gate.right) ∷ [])

pub gate-taken : (h : Header) (ds os : List ℕ) (ps : List (ℕ × ℕ)) (ws : List (List ℕ)) (t : Items) → h.max ≤ 268435456 → with_gate h (st ds os ps) (three_numbers ws) ≡ Ok t → GateTaken h ds os ps ws t
gate-taken h ds os ps ws t small e = numbers (three_numbers ws) refl
  where
    numbers : (o : Option (ℕ × ℕ × ℕ)) → three_numbers ws ≡ o → GateTaken h ds os ps ws t
    numbers None q = absurd (let f : Err 2 ≡ Ok t = ap (with_gate h (st ds os ps)) (sym q) ∙ e in cc)
    numbers (Some (l, a, b)) q = go (is_left h.max l && (is_right h.max a && is_right h.max b)) refl (is_some (place_of ds (l / 2))) refl
      where
        more : Items
        more = st (ds ++ (l / 2) ∷ []) os (ps ++ (a, b) ∷ [])

        g : with_gate h (st ds os ps) (Some (l, a, b)) ≡ Ok t
        g = ap (with_gate h (st ds os ps)) (sym q) ∙ e

        go : (x : Bool) → is_left h.max l && (is_right h.max a && is_right h.max b) ≡ x → (y : Bool) → is_some (place_of ds (l / 2)) ≡ y → GateTaken h ds os ps ws t
        go false p y r = absurd (let f : Err 2 ≡ Ok t = ap (λ x. cond x (cond (is_some (place_of ds (l / 2))) (Err 4) (Ok (st (ds ++ (l / 2) ∷ []) os (ps ++ (a, b) ∷ [])))) (Err 2)) (sym p) ∙ g in cc)
        go true p true r = absurd (let f : Err 4 ≡ Ok t = ap (λ x. cond x (Err 4) (Ok (st (ds ++ (l / 2) ∷ []) os (ps ++ (a, b) ∷ [])))) (sym r) ∙ (ap (λ x. cond x (cond (is_some (place_of ds (l / 2))) (Err 4) (Ok (st (ds ++ (l / 2) ∷ []) os (ps ++ (a, b) ∷ [])))) (Err 2)) (sym p) ∙ g) in cc)
        go true p false r =
            let f : Ok (st (ds ++ (l / 2) ∷ []) os (ps ++ (a, b) ∷ [])) ≡ Ok t = ap (λ x. cond x (Err 4) (Ok (st (ds ++ (l / 2) ∷ []) os (ps ++ (a, b) ∷ [])))) (sym r) ∙ (ap (λ x. cond x (cond (is_some (place_of ds (l / 2))) (Err 4) (Ok (st (ds ++ (l / 2) ∷ []) os (ps ++ (a, b) ∷ [])))) (Err 2)) (sym p) ∙ g) in
            let z : st (ds ++ (l / 2) ∷ []) os (ps ++ (a, b) ∷ []) ≡ t = cc in
            let i = left-is h.max l (both-left _ _ p) in
            let low : 2 ≤ l = i.low in
            let high : l ≤ 2 * h.max = i.high in
            let even : 2 * (l / 2) ≡ l = i.even in
            let p1 = both-right (is_left h.max l) _ p in
            let ra : a ≤ 2 * h.max + 1 = right-is h.max a (both-left _ _ p1) in
            let rb : b ≤ 2 * h.max + 1 = right-is h.max b (both-right (is_right h.max a) _ p1) in
            record {
              gate = record { var = l / 2; left = a; right = b };
              spelled = subst (λ (k : ℕ). AreNumbers ws (k ∷ a ∷ b ∷ [])) (sym even) (three-line ws l a b q (omega arith) (omega arith) (omega arith));
              bounds = ((omega arith, omega arith), ra, rb);
              new = place-none ds (l / 2) (none-there ds (l / 2) r);
              is = sym z;
            }

pub gate-takes : (h : Header) (ds os : List ℕ) (ps : List (ℕ × ℕ)) (ws : List (List ℕ)) (d : Definition) → h.max ≤ 268435456 → AreNumbers ws (2 * d.var ∷ d.left ∷ d.right ∷ []) → IsDefinition h.max d → ((k : ℕ) → k < length ds → get_or ds k 0 ≢ d.var) → with_gate h (st ds os ps) (three_numbers ws) ≡ Ok (st (ds ++ d.var ∷ []) os (ps ++ (d.left, d.right) ∷ []))
gate-takes h ds os ps ws d small s b n =
    let high : d.var ≤ h.max = b.0.1 in
    let ra : d.left ≤ 2 * h.max + 1 = b.1 in
    let rb : d.right ≤ 2 * h.max + 1 = b.2 in
    let o : three_numbers ws ≡ Some (2 * d.var, d.left, d.right) = line-three ws (2 * d.var) d.left d.right s (omega arith) (omega arith) (omega arith) in
    let i = is-left h.max d.var b.0 in
    let ia = is-right h.max d.left b.1 in
    let ib = is-right h.max d.right b.2 in
    let z = half d.var in
    let f = fresh ds d.var n in
    ap (with_gate h (st ds os ps)) o ∙ rw (i, ia, ib, z, f) refl
