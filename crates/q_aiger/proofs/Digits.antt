-- Values of digits.
use Rattle.std.proofs.Common.{◌≡◌, ◌≢◌, ℕ, zero, suc, ◌+◌, ◌-◌, ◌*◌, ◌<◌, ◌≤◌, Bool, true, false, cond, List, [], ◌∷◌, length, take, get_or, refl, ap, sym, ◌∙◌, arith, subst, Option, Some, None, is_some, is_none, Err}
use Rattle.std.proofs.lemmas.Bool.{both_ways}
use Rattle.q_text.specs.Words.{digits, digits_behind, is_digit}
use Rattle.q_aiger.specs.Lines.{clipped, clipped_some, number, words}
use Rattle.q_aiger.specs.declared.header.Words.{Words}
use Rattle.q_aiger.specs.Headers.{is_aag, counts_with, counts_of, counts_in, header_with, header_of, value_behind, value, IsNumber, AreNumbers, padded, IsSpare}

digits-value : (n m : ℕ) (w : List ℕ) → digits_behind n w ≡ Some m → m ≡ value_behind n w
digits-value n m [] e = cc
digits-value n m (b ∷ w) e = go (is_digit b) refl (digits-value (10 * n + (b - 48)) m w)
  where
    go : (t : Bool) → is_digit b ≡ t → (digits_behind (10 * n + (b - 48)) w ≡ Some m → m ≡ value_behind (10 * n + (b - 48)) w) → m ≡ value_behind (10 * n + (b - 48)) w
    go true q h = h (ap (λ t. cond t (digits_behind (10 * n + (b - 48)) w) None) (sym q) ∙ e)
    go false q h = absurd (let f : None ≡ Some m = ap (λ t. cond t (digits_behind (10 * n + (b - 48)) w) None) (sym q) ∙ e in cc)

number-value : (w : List ℕ) (m : ℕ) → digits w ≡ Some m → IsNumber w
number-value [] m e = absurd (cc)
number-value (b ∷ w) m e = e ∙ ap Some (digits-value 0 m (b ∷ w) e)

-- what the reader of numbers tells
pub number-test : (w : List ℕ) (o : Option ℕ) (b : Bool) → o ≡ number w → b ≡ is_some o → (b ≡ true → IsNumber w) × (IsNumber w → b ≡ true)
number-test w o b e f = (λ t. go (digits w) refl t, λ h. f ∙ (ap is_some e ∙ ap (λ x. is_some (clipped_some x)) h))
  where
    go : (d : Option ℕ) → digits w ≡ d → b ≡ true → IsNumber w
    go None q t = absurd (let g : is_some o ≡ false = ap is_some (e ∙ ap clipped_some q) in both_ways (is_some o) g (sym f ∙ t))
    go (Some m) q t = number-value w m q

pub number-count : (w : List ℕ) → IsNumber w → number w ≡ Some (clipped (value w))
number-count w h = ap clipped_some h

digit-at : (n m : ℕ) (w : List ℕ) (k : ℕ) → digits_behind n w ≡ Some m → k < length w → is_digit (get_or w k 0) ≡ true
digit-at n m [] k e lt = absurd (omega arith)
digit-at n m (b ∷ w) k e lt = go (is_digit b) refl (digit-at (10 * n + (b - 48)) m w) k lt
  where
    go : (t : Bool) → is_digit b ≡ t → ((k : ℕ) → digits_behind (10 * n + (b - 48)) w ≡ Some m → k < length w → is_digit (get_or w k 0) ≡ true) → (k : ℕ) → k < length (b ∷ w) → is_digit (get_or (b ∷ w) k 0) ≡ true
    go true q h zero lt = q
    go true q h (suc k) lt = h k (ap (λ t. cond t (digits_behind (10 * n + (b - 48)) w) None) (sym q) ∙ e) (omega arith)
    go false q h k lt = absurd (let f : None ≡ Some m = ap (λ t. cond t (digits_behind (10 * n + (b - 48)) w) None) (sym q) ∙ e in cc)

digit-range : (b : ℕ) → is_digit b ≡ true → (48 ≤ b) × (b ≤ 57)
digit-range b e = grind arith

pub digits-range : (w : List ℕ) (k : ℕ) → IsNumber w → k < length w → (48 ≤ get_or w k 0) × (get_or w k 0 ≤ 57)
digits-range [] k h lt = absurd (omega arith)
digits-range (b ∷ w) k h lt = digit-range (get_or (b ∷ w) k 0) (digit-at 0 (value (b ∷ w)) (b ∷ w) k h lt)

value-take : (n : ℕ) (w : List ℕ) (j : ℕ) → j < length w → value_behind n (take (suc j) w) ≡ 10 * value_behind n (take j w) + (get_or w j 0 - 48)
value-take n [] j lt = absurd (omega arith)
value-take n (b ∷ w) zero lt = refl
value-take n (b ∷ w) (suc j) lt = value-take (10 * n + (b - 48)) w j (omega arith)

take-zero : (w : List ℕ) (k : ℕ) → k ≡ 0 → value (take k w) ≡ 0
take-zero w k e = ap (λ k. value (take k w)) e

pub padded-blank : (len at : ℕ) (w : List ℕ) → at < len - length w → padded len w (at + 1) ≡ 10 * padded len w at + 0
padded-blank len at w lt =
    let a = take-zero w (at + 1 - (len - length w)) (omega arith) in
    let b = take-zero w (at - (len - length w)) (omega arith) in
    omega arith

pub padded-digit : (len at : ℕ) (w : List ℕ) → length w ≤ len → len - length w ≤ at → at < len → padded len w (at + 1) ≡ 10 * padded len w at + (get_or w (at - (len - length w)) 0 - 48)
padded-digit len at w le ge lt =
    let z : at + 1 - (len - length w) ≡ suc (at - (len - length w)) = omega arith in
    ap (λ k. value (take k w)) z ∙ value-take 0 w (at - (len - length w)) (omega arith)

take-all : (w : List ℕ) (k : ℕ) → k ≡ length w → take k w ≡ w
take-all [] zero e = refl
take-all [] (suc k) e = refl
take-all (b ∷ w) zero e = absurd (omega arith)
take-all (b ∷ w) (suc k) e = ap (λ x. b ∷ x) (take-all w k (omega arith))

pub padded-all : (len : ℕ) (w : List ℕ) → length w ≤ len → padded len w len ≡ value w
padded-all len w le = ap value (take-all w (len - (len - length w)) (omega arith))

pub spare-start : (len : ℕ) (m i l g : List ℕ) → IsSpare (Some 0) (padded len m 0) (padded len i 0 + padded len l 0 + padded len g 0)
spare-start len m i l g =
    let a = take-zero m (0 - (len - length m)) (omega arith) in
    let b = take-zero i (0 - (len - length i)) (omega arith) in
    let c = take-zero l (0 - (len - length l)) (omega arith) in
    let d = take-zero g (0 - (len - length g)) (omega arith) in
    (omega arith, omega arith)

pub spare-is : (o : Option ℕ) (m s m2 s2 : ℕ) → m ≡ m2 → s ≡ s2 → IsSpare o m s → IsSpare o m2 s2
spare-is o m s m2 s2 e f h = subst (IsSpare o m2) f (subst (λ x. IsSpare o x s) e h)

pub spare-less : (o : Option ℕ) (b : Bool) (m s : ℕ) → b ≡ is_none o → IsSpare o m s → (b ≡ true → m < s) × (m < s → b ≡ true)
spare-less None b m s e h = (λ t. h, λ lt. e)
spare-less (Some r) b m s e h = (λ t. absurd (both_ways b e t), λ lt. absurd (let le : s ≤ m = h.0 in omega arith))

pub counts-none : (r : Words) → (AreNumbers r → ⊥) → counts_with (digits r.max.now) (digits r.inputs.now) (digits r.latches.now) (digits r.outputs.now) (digits r.gates.now) ≡ None
counts-none r n = go (digits r.max.now) (digits r.inputs.now) (digits r.latches.now) (digits r.outputs.now) (digits r.gates.now) refl refl refl refl refl
  where
    go : (a b c d e : Option ℕ) → digits r.max.now ≡ a → digits r.inputs.now ≡ b → digits r.latches.now ≡ c → digits r.outputs.now ≡ d → digits r.gates.now ≡ e → counts_with a b c d e ≡ None
    go (Some a) (Some b) (Some c) (Some d) (Some e) p q s t u = absurd (n (record {
      max = number-value r.max.now a p;
      inputs = number-value r.inputs.now b q;
      latches = number-value r.latches.now c s;
      outputs = number-value r.outputs.now d t;
      gates = number-value r.gates.now e u;
    }))
    go (Some a) (Some b) (Some c) (Some d) None p q s t u = refl
    go (Some a) (Some b) (Some c) None e p q s t u = refl
    go (Some a) (Some b) None d e p q s t u = refl
    go (Some a) None c d e p q s t u = refl
    go None b c d e p q s t u = refl

pub header-words : (r : Words) → (AreNumbers r → ⊥) → header_with (counts_in r) ≡ Err 1
header-words r n = go (is_aag r.tag.now)
  where
    go : (b : Bool) → header_with (cond b (counts_with (digits r.max.now) (digits r.inputs.now) (digits r.latches.now) (digits r.outputs.now) (digits r.gates.now)) None) ≡ Err 1
    go true = ap header_with (counts-none r n)
    go false = refl

counts-other : (ws : List (List ℕ)) → length ws ≢ 6 → counts_of ws ≡ None
counts-other [] n = refl
counts-other (a ∷ []) n = refl
counts-other (a ∷ b ∷ []) n = refl
counts-other (a ∷ b ∷ c ∷ []) n = refl
counts-other (a ∷ b ∷ c ∷ d ∷ []) n = refl
counts-other (a ∷ b ∷ c ∷ d ∷ e ∷ []) n = refl
counts-other (a ∷ b ∷ c ∷ d ∷ e ∷ f ∷ []) n = absurd (n refl)
counts-other (a ∷ b ∷ c ∷ d ∷ e ∷ f ∷ g ∷ ws) n = refl

pub header-other : (l : List ℕ) → length (words l) ≢ 6 → header_of l ≡ Err 1
header-other l n = ap header_with (counts-other (words l) n)

pub header-six : (l : List ℕ) (r : Words) → words l ≡ r.tag.now ∷ r.max.now ∷ r.inputs.now ∷ r.latches.now ∷ r.outputs.now ∷ r.gates.now ∷ [] → header_of l ≡ header_with (counts_in r)
header-six l r e = ap (λ ws. header_with (counts_of ws)) e
