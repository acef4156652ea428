-- Lines of numbers, as the reader and the grammar have them.
use Rattle.std.proofs.Common.{◌≡◌, ℕ, ◌<◌, List, [], ◌∷◌, refl, ap, sym, ◌∙◌, arith, Option, Some, None}
use Rattle.q_text.specs.Words.{digits}
use Rattle.q_aiger.specs.Lines.{clipped, clipped_some, number}
use Rattle.q_aiger.specs.Items.{one_number, triple, three_numbers}
use Rattle.q_aiger.specs.Grammar.{AreNumbers}

pub number-digits : (w : List ℕ) (n : ℕ) → number w ≡ Some n → n < 576460752303423488 → digits w ≡ Some n
number-digits w n e lt = go (digits w) refl
  where
    go : (o : Option ℕ) → digits w ≡ o → digits w ≡ Some n
    go None q = absurd (let f : None ≡ Some n = ap clipped_some (sym q) ∙ e in cc)
    go (Some m) q =
        let f : Some (clipped m) ≡ Some n = ap clipped_some (sym q) ∙ e in
        let z : clipped m ≡ n = cc in
        let y : m ≡ n = omega arith in
        q ∙ ap Some y

pub digits-number : (w : List ℕ) (n : ℕ) → digits w ≡ Some n → n < 576460752303423488 → number w ≡ Some n
digits-number w n e lt = let z : clipped n ≡ n = omega arith in ap clipped_some e ∙ ap Some z

pub one-line : (ws : List (List ℕ)) (n : ℕ) → one_number ws ≡ Some n → n < 576460752303423488 → AreNumbers ws (n ∷ [])
one-line [] n e lt = absurd (cc)
one-line (w ∷ []) n e lt = (number-digits w n e lt, tt)
one-line (w ∷ v ∷ ws) n e lt = absurd (cc)

pub line-one : (ws : List (List ℕ)) (n : ℕ) → AreNumbers ws (n ∷ []) → n < 576460752303423488 → one_number ws ≡ Some n
line-one [] n h lt = absurd h
line-one (w ∷ []) n h lt = digits-number w n h.0 lt
line-one (w ∷ v ∷ ws) n h lt = absurd h.1

triple-parts : (x y z : Option ℕ) (a b c : ℕ) → triple x y z ≡ Some (a, b, c) → (x ≡ Some a) × (y ≡ Some b) × (z ≡ Some c)
triple-parts None y z a b c e = absurd (cc)
triple-parts (Some x) None z a b c e = absurd (cc)
triple-parts (Some x) (Some y) None a b c e = absurd (cc)
triple-parts (Some x) (Some y) (Some z) a b c e =
    let f : (ℕ × ℕ × ℕ) → ℕ = λ (p : ℕ × ℕ × ℕ). p.0 in
    let s : ◌≡◌ {A = ℕ × ℕ × ℕ} (x, y, z) (a, b, c) = cc in
    (ap (λ (p : ℕ × ℕ × ℕ). Some p.0) s, ap (λ (p : ℕ × ℕ × ℕ). Some p.1) s, ap (λ (p : ℕ × ℕ × ℕ). Some p.2) s)

pub three-line : (ws : List (List ℕ)) (a b c : ℕ) → three_numbers ws ≡ Some (a, b, c) → a < 576460752303423488 → b < 576460752303423488 → c < 576460752303423488 → AreNumbers ws (a ∷ b ∷ c ∷ [])
three-line [] a b c e la lb lc = absurd (cc)
three-line (u ∷ []) a b c e la lb lc = absurd (cc)
three-line (u ∷ v ∷ []) a b c e la lb lc = absurd (cc)
three-line (u ∷ v ∷ w ∷ []) a b c e la lb lc =
    let p = triple-parts (number u) (number v) (number w) a b c e in
    (number-digits u a p.0 la, (number-digits v b p.1 lb, (number-digits w c p.2 lc, tt)))
three-line (u ∷ v ∷ w ∷ x ∷ ws) a b c e la lb lc = absurd (cc)

pub line-three : (ws : List (List ℕ)) (a b c : ℕ) → AreNumbers ws (a ∷ b ∷ c ∷ []) → a < 576460752303423488 → b < 576460752303423488 → c < 576460752303423488 → three_numbers ws ≡ Some (a, b, c)
line-three [] a b c h la lb lc = absurd h
line-three (u ∷ []) a b c h la lb lc = absurd h.1
line-three (u ∷ v ∷ []) a b c h la lb lc = absurd h.1.1
line-three (u ∷ v ∷ w ∷ []) a b c h la lb lc =
    ap (λ o. triple o (number v) (number w)) (digits-number u a h.0 la)
    ∙ (ap (λ o. triple (Some a) o (number w)) (digits-number v b h.1.0 lb) ∙ ap (λ o. triple (Some a) (Some b) o) (digits-number w c h.1.1.0 lc))
line-three (u ∷ v ∷ w ∷ x ∷ ws) a b c h la lb lc = absurd h.1.1.1
