-- How many items there are once all lines have stood, and where their operands are.
use Rattle.std.proofs.Common.{◌≡◌, inl, inr, ℕ, zero, suc, ◌+◌, ◌-◌, ◌/◌, ◌<◌, ◌≤◌, Bool, true, false, ◌&&◌, cond, nat_lt, is_some, List, [], ◌∷◌, ◌++◌, length, refl, ap, sym, ◌∙◌, arith, subst, Option, Some, None, Result, Ok, Err}
use Rattle.std.proofs.lemmas.List.{length_push}
use Rattle.std.proofs.lemmas.Bool.{cases_lt, ltb-false}
use Rattle.q_aiger.specs.Headers.{Header}
use Rattle.q_aiger.specs.Lines.{words}
use Rattle.q_aiger.specs.Items.{Items, Behind, place_of, is_left, is_right, one_number, three_numbers, with_input, with_output, with_gate, with_line, follow, items_from, items_of, IsOnTheWay}

input-on : (h : Header) (s t : Items) (o : Option ℕ) (k : ℕ) → with_input h s o ≡ Ok t → length s.defined < h.inputs → IsOnTheWay h s (suc k) → IsOnTheWay h t k
input-on h s t None k e lt w = absurd (cc)
input-on h s t (Some l) k e lt w = go (is_left h.max l) refl (is_some (place_of s.defined (l / 2))) refl
  where
    go : (a : Bool) → is_left h.max l ≡ a → (b : Bool) → is_some (place_of s.defined (l / 2)) ≡ b → IsOnTheWay h t k
    go false p b q = absurd (let f : Err 2 ≡ Ok t = ap (λ x. cond x (cond (is_some (place_of s.defined (l / 2))) (Err 4) (Ok (record s { defined = s.defined ++ (l / 2) ∷ [] }))) (Err 2)) (sym p) ∙ e in cc)
    go true p true q = absurd (let f : Err 4 ≡ Ok t = ap (λ x. cond x (Err 4) (Ok (record s { defined = s.defined ++ (l / 2) ∷ [] }))) (sym q) ∙ (ap (λ x. cond x (cond (is_some (place_of s.defined (l / 2))) (Err 4) (Ok (record s { defined = s.defined ++ (l / 2) ∷ [] }))) (Err 2)) (sym p) ∙ e) in cc)
    go true p false q =
        let f : Ok (record s { defined = s.defined ++ (l / 2) ∷ [] }) ≡ Ok t = ap (λ x. cond x (Err 4) (Ok (record s { defined = s.defined ++ (l / 2) ∷ [] }))) (sym q) ∙ (ap (λ x. cond x (cond (is_some (place_of s.defined (l / 2))) (Err 4) (Ok (record s { defined = s.defined ++ (l / 2) ∷ [] }))) (Err 2)) (sym p) ∙ e) in
        let g : record s { defined = s.defined ++ (l / 2) ∷ [] } ≡ t = cc in
        let len = length_push s.defined (l / 2) in
        let c = w.count in let d = w.gates in let o = w.outputs in let z = w.inputs_first lt in
        subst (λ (x : Items). IsOnTheWay h x k) g (record {
          count = omega arith;
          gates = omega arith;
          outputs = w.outputs;
          inputs_first = λ b. z;
          outputs_first = λ b. absurd (omega arith);
        })

output-on : (h : Header) (s t : Items) (o : Option ℕ) (k : ℕ) → with_output h s o ≡ Ok t → h.inputs ≤ length s.defined → length s.outputs < h.outputs → IsOnTheWay h s (suc k) → IsOnTheWay h t k
output-on h s t None k e le lt w = absurd (cc)
output-on h s t (Some l) k e le lt w = go (is_right h.max l) refl
  where
    go : (a : Bool) → is_right h.max l ≡ a → IsOnTheWay h t k
    go false p = absurd (let f : Err 2 ≡ Ok t = ap (λ x. cond x (Ok (record s { outputs = s.outputs ++ l ∷ [] })) (Err 2)) (sym p) ∙ e in cc)
    go true p =
        let f : Ok (record s { outputs = s.outputs ++ l ∷ [] }) ≡ Ok t = ap (λ x. cond x (Ok (record s { outputs = s.outputs ++ l ∷ [] })) (Err 2)) (sym p) ∙ e in
        let g : record s { outputs = s.outputs ++ l ∷ [] } ≡ t = cc in
        let len = length_push s.outputs l in
        let c = w.count in let d = w.gates in let first : h.inputs < length s.defined → length s.outputs ≡ h.outputs = w.outputs_first in
        subst (λ (x : Items). IsOnTheWay h x k) g (record {
          count = omega arith;
          gates = w.gates;
          outputs = omega arith;
          inputs_first = λ b. absurd (omega arith);
          outputs_first = λ b. absurd (let z = first b in omega arith);
        })

gate-on : (h : Header) (s t : Items) (o : Option (ℕ × ℕ × ℕ)) (k : ℕ) → with_gate h s o ≡ Ok t → h.inputs ≤ length s.defined → h.outputs ≤ length s.outputs → IsOnTheWay h s (suc k) → IsOnTheWay h t k
gate-on h s t None k e le ge w = absurd (cc)
gate-on h s t (Some (l, a, b)) k e le ge w = go (is_left h.max l && (is_right h.max a && is_right h.max b)) refl (is_some (place_of s.defined (l / 2))) refl
  where
    more : Items
    more = record s { defined = s.defined ++ (l / 2) ∷ []; operands = s.operands ++ (a, b) ∷ [] }

    go : (x : Bool) → is_left h.max l && (is_right h.max a && is_right h.max b) ≡ x → (y : Bool) → is_some (place_of s.defined (l / 2)) ≡ y → IsOnTheWay h t k
    go false p y q = absurd (let f : Err 2 ≡ Ok t = ap (λ x. cond x (cond (is_some (place_of s.defined (l / 2))) (Err 4) (Ok (record s { defined = s.defined ++ (l / 2) ∷ []; operands = s.operands ++ (a, b) ∷ [] }))) (Err 2)) (sym p) ∙ e in cc)
    go true p true q = absurd (let f : Err 4 ≡ Ok t = ap (λ x. cond x (Err 4) (Ok (record s { defined = s.defined ++ (l / 2) ∷ []; operands = s.operands ++ (a, b) ∷ [] }))) (sym q) ∙ (ap (λ x. cond x (cond (is_some (place_of s.defined (l / 2))) (Err 4) (Ok (record s { defined = s.defined ++ (l / 2) ∷ []; operands = s.operands ++ (a, b) ∷ [] }))) (Err 2)) (sym p) ∙ e) in cc)
    go true p false q =
        let f : Ok (record s { defined = s.defined ++ (l / 2) ∷ []; operands = s.operands ++ (a, b) ∷ [] }) ≡ Ok t = ap (λ x. cond x (Err 4) (Ok (record s { defined = s.defined ++ (l / 2) ∷ []; operands = s.operands ++ (a, b) ∷ [] }))) (sym q) ∙ (ap (λ x. cond x (cond (is_some (place_of s.defined (l / 2))) (Err 4) (Ok (record s { defined = s.defined ++ (l / 2) ∷ []; operands = s.operands ++ (a, b) ∷ [] }))) (Err 2)) (sym p) ∙ e) in
        let g : record s { defined = s.defined ++ (l / 2) ∷ []; operands = s.operands ++ (a, b) ∷ [] } ≡ t = cc in
        let len = length_push s.defined (l / 2) in
        let len2 = length_push s.operands (a, b) in
        let c = w.count in let d = w.gates in let o = w.outputs in
        subst (λ (x : Items). IsOnTheWay h x k) g (record {
          count = omega arith;
          gates = omega arith;
          outputs = w.outputs;
          inputs_first = λ b. absurd (omega arith);
          outputs_first = λ b. omega arith;
        })

lt-is : (a b : ℕ) → nat_lt a b ≡ true → a < b
lt-is a b e = grind arith

line-on : (h : Header) (s t : Items) (ws : List (List ℕ)) (k : ℕ) → with_line h s ws ≡ Ok t → IsOnTheWay h s (suc k) → IsOnTheWay h t k
line-on h s t ws k e w = go (nat_lt (length s.defined) h.inputs) refl (nat_lt (length s.outputs) h.outputs) refl
  where
    go : (a : Bool) → nat_lt (length s.defined) h.inputs ≡ a → (b : Bool) → nat_lt (length s.outputs) h.outputs ≡ b → IsOnTheWay h t k
    go true p b q = input-on h s t (one_number ws) k (ap (λ x. cond x (with_input h s (one_number ws)) (cond (nat_lt (length s.outputs) h.outputs) (with_output h s (one_number ws)) (with_gate h s (three_numbers ws)))) (sym p) ∙ e) (lt-is _ _ p) w
    go false p true q = output-on h s t (one_number ws) k (ap (λ x. cond x (with_output h s (one_number ws)) (with_gate h s (three_numbers ws))) (sym q) ∙ (ap (λ x. cond x (with_input h s (one_number ws)) (cond (nat_lt (length s.outputs) h.outputs) (with_output h s (one_number ws)) (with_gate h s (three_numbers ws)))) (sym p) ∙ e)) (ltb-false _ _ p) (lt-is _ _ q) w
    go false p false q = gate-on h s t (three_numbers ws) k (ap (λ x. cond x (with_output h s (one_number ws)) (with_gate h s (three_numbers ws))) (sym q) ∙ (ap (λ x. cond x (with_input h s (one_number ws)) (cond (nat_lt (length s.outputs) h.outputs) (with_output h s (one_number ws)) (with_gate h s (three_numbers ws)))) (sym p) ∙ e)) (ltb-false _ _ p) (ltb-false _ _ q) w

items-on : (h : Header) (e n : ℕ) (s : Items) (k : ℕ) (ls : List (List ℕ)) (b : Behind) → items_from h e n s k ls ≡ Ok b → IsOnTheWay h s k → IsOnTheWay h b.items 0 × (b.line + length b.lines ≡ n + length ls)
items-on h e n s zero ls b q w =
    let g : record { items = s; line = n; lines = ls } ≡ b = cc in
    (subst (λ (x : Behind). IsOnTheWay h x.items 0) g w, ap (λ (x : Behind). x.line + length x.lines) (sym g))
items-on h e n s (suc k) [] b q w = absurd (cc)
items-on h e n s (suc k) (l ∷ ls) b q w = go (with_line h s (words l)) refl q (λ t. items-on h e (n + 1) t k ls b)
  where
    go : (r : Result Items ℕ) → with_line h s (words l) ≡ r → follow n r (λ t. items_from h e (n + 1) t k ls) ≡ Ok b → ((t : Items) → items_from h e (n + 1) t k ls ≡ Ok b → IsOnTheWay h t k → IsOnTheWay h b.items 0 × (b.line + length b.lines ≡ n + 1 + length ls)) → IsOnTheWay h b.items 0 × (b.line + length b.lines ≡ n + length (l ∷ ls))
    go (Ok t) r f ih = let x = ih t f (line-on h s t (words l) k r w) in let y = x.1 in (x.0, omega arith)
    go (Err c) r f ih = absurd (cc)

pub items-counted : (h : Header) (e : ℕ) (ls : List (List ℕ)) (b : Behind) → items_of h e ls ≡ Ok b → IsOnTheWay h b.items 0 × (b.line + length b.lines ≡ 2 + length ls)
items-counted h e ls b q = items-on h e 2 (record { defined = []; outputs = []; operands = [] }) (h.inputs + h.outputs + h.gates) ls b q (record {
  count = omega arith;
  gates = omega arith;
  outputs = omega arith;
  inputs_first = λ b. refl;
  outputs_first = λ b. absurd (omega arith);
})

pub record AreCounted (h : Header) (s : Items) : Type 0 where
  pub outputs : length s.outputs ≡ h.outputs
  pub gates : length s.operands ≡ h.gates
  pub defined : length s.defined - h.inputs ≡ h.gates

pub counted : (h : Header) (s : Items) → IsOnTheWay h s 0 → AreCounted h s
counted h s w =
    let c : length s.defined + length s.outputs + 0 ≡ h.inputs + h.outputs + h.gates = w.count in
    let d : length s.defined - h.inputs ≡ length s.operands = w.gates in
    let o : length s.outputs ≤ h.outputs = w.outputs in
    elim (cases_lt (length s.defined) h.inputs) [
      | inl lt ↦ absurd (let z : length s.outputs ≡ 0 = w.inputs_first lt in omega arith)
      | inr le ↦ elim (cases_lt h.inputs (length s.defined)) [
        | inl lt ↦ let z : length s.outputs ≡ h.outputs = w.outputs_first lt in record { outputs = z; gates = omega arith; defined = omega arith }
        | inr ge ↦ record { outputs = omega arith; gates = omega arith; defined = omega arith }
      ]
    ]
