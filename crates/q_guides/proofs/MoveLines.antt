-- Halves and lines of a text.
use Rattle.std.proofs.Common.{◌≡◌, ◌≢◌, ◌<◌, ◌≤◌, ◌+◌, ◌-◌, ◌∙◌, ◌==◌, ℕ, suc, Bool, true, false, cond, if◌then◌else◌, List, [], ◌∷◌, ◌++◌, length, take, drop, refl, sym, ap, subst, arith, Option, Some, None, position, flat_map, inl, inr, length-drop}
use Rattle.std.specs.List.{position_from}
use Rattle.std.proofs.lemmas.Iterator.Adapters.{position_from-zero}
use Rattle.std.proofs.Math.Seq.{take-length}
use Rattle.q_guides.specs.MoveTexts.{halves, is_right, lines, onto, with_front, wrong_from, wrong_line, IsFirstLine}

-- where the byte stands that divides
found-from : (d i : ℕ) (text : List ℕ) (k : ℕ) → position_from (λ b. b == d) i text ≡ Some k → (j : ℕ) × (k ≡ i + j) × (halves d text ≡ Some (take j text, drop (suc j) text))
found-from d i [] k e = cc
found-from d i (b ∷ bs) k e = go (b == d) refl e (found-from d (i + 1) bs k)
  where
    go : (t : Bool) → (b == d) ≡ t → cond t (Some i) (position_from (λ b. b == d) (i + 1) bs) ≡ Some k → (position_from (λ b. b == d) (i + 1) bs ≡ Some k → (j : ℕ) × (k ≡ i + 1 + j) × (halves d bs ≡ Some (take j bs, drop (suc j) bs))) → (j : ℕ) × (k ≡ i + j) × (halves d (b ∷ bs) ≡ Some (take j (b ∷ bs), drop (suc j) (b ∷ bs)))
    go true q e ih = let z : i ≡ k = cc in (0, omega arith, rw q refl)
    go false q e ih = let (j, z, h) = ih e in (suc j, omega arith, rw q (ap (with_front b) h))

none-from : (d i : ℕ) (text : List ℕ) → position_from (λ b. b == d) i text ≡ None → halves d text ≡ None
none-from d i [] e = refl
none-from d i (b ∷ bs) e = go (b == d) refl e (none-from d (i + 1) bs)
  where
    go : (t : Bool) → (b == d) ≡ t → cond t (Some i) (position_from (λ b. b == d) (i + 1) bs) ≡ None → (position_from (λ b. b == d) (i + 1) bs ≡ None → halves d bs ≡ None) → halves d (b ∷ bs) ≡ None
    go true q e ih = cc
    go false q e ih = rw q (ap (with_front b) (ih e))

pub halves-some : (d : ℕ) (text : List ℕ) (k : ℕ) → Some k ≡ position (λ b. b == d) text → Some (take k text, drop (k + 1) text) ≡ halves d text
halves-some d text k e =
    let (j, z, h) = found-from d 0 text k (sym (e ∙ position_from-zero (λ b. b == d) text)) in
    let q : j ≡ k = omega arith in
    let r : suc j ≡ k + 1 = omega arith in
    sym (subst (λ n. halves d text ≡ Some (take n text, drop (k + 1) text)) q (subst (λ n. halves d text ≡ Some (take j text, drop n text)) r h))

pub halves-none : (d : ℕ) (text : List ℕ) → None ≡ position (λ b. b == d) text → None ≡ halves d text
halves-none d text e = sym (none-from d 0 text (sym (e ∙ position_from-zero (λ b. b == d) text)))

-- what is behind a place
pub rest_behind : (text : List ℕ) (k : ℕ) → take (length text - (k + 1)) (drop (k + 1) text) ≡ drop (k + 1) text
rest_behind text k = subst (λ n. take n (drop (k + 1) text) ≡ drop (k + 1) text) (length-drop (k + 1) text) (take-length (drop (k + 1) text))

-- the first line
pub lines-some : (text : List ℕ) (p : List ℕ × List ℕ) → halves 10 text ≡ Some p → lines text ≡ p.0 ∷ lines p.1
lines-some [] p e = cc
lines-some (b ∷ bs) p e = go (b == 10) refl e (lines-some bs)
  where
    inner : (o : Option (List ℕ × List ℕ)) → with_front b o ≡ Some p → ((r : List ℕ × List ℕ) → o ≡ Some r → lines bs ≡ r.0 ∷ lines r.1) → onto b (lines bs) ≡ p.0 ∷ lines p.1
    inner None e ih = cc
    inner (Some (x, y)) e ih =
        let z : (b ∷ x, y) ≡ p = cc in
        let h : lines bs ≡ x ∷ lines y = ih (x, y) refl in
        subst (λ (r : List ℕ × List ℕ). onto b (lines bs) ≡ r.0 ∷ lines r.1) z (rw h refl)

    go : (t : Bool) → (b == 10) ≡ t → (if t then Some ([], bs) else with_front b (halves 10 bs)) ≡ Some p → ((r : List ℕ × List ℕ) → halves 10 bs ≡ Some r → lines bs ≡ r.0 ∷ lines r.1) → lines (b ∷ bs) ≡ p.0 ∷ lines p.1
    go true q e ih = let z : ([], bs) ≡ p = cc in subst (λ (r : List ℕ × List ℕ). lines (b ∷ bs) ≡ r.0 ∷ lines r.1) z (rw q refl)
    go false q e ih = rw q (inner (halves 10 bs) e ih)

pub lines-none : (text : List ℕ) → halves 10 text ≡ None → lines text ≡ text ∷ []
lines-none [] e = refl
lines-none (b ∷ bs) e = go (b == 10) refl e (lines-none bs)
  where
    inner : (o : Option (List ℕ × List ℕ)) → with_front b o ≡ None → (o ≡ None → lines bs ≡ bs ∷ []) → onto b (lines bs) ≡ (b ∷ bs) ∷ []
    inner None e ih = let h : lines bs ≡ bs ∷ [] = ih refl in rw h refl
    inner (Some (x, y)) e ih = cc

    go : (t : Bool) → (b == 10) ≡ t → (if t then Some ([], bs) else with_front b (halves 10 bs)) ≡ None → (halves 10 bs ≡ None → lines bs ≡ bs ∷ []) → lines (b ∷ bs) ≡ (b ∷ bs) ∷ []
    go true q e ih = cc
    go false q e ih = rw q (inner (halves 10 bs) e ih)

-- what stands behind the first such byte is shorter
pub back-shorter : (d : ℕ) (text : List ℕ) (p : List ℕ × List ℕ) → halves d text ≡ Some p → length p.1 < length text
back-shorter d [] p e = cc
back-shorter d (b ∷ bs) p e = go (b == d) refl e (back-shorter d bs)
  where
    inner : (o : Option (List ℕ × List ℕ)) → with_front b o ≡ Some p → ((r : List ℕ × List ℕ) → o ≡ Some r → length r.1 < length bs) → length p.1 < length (b ∷ bs)
    inner None e ih = cc
    inner (Some (x, y)) e ih =
        let z : (b ∷ x, y) ≡ p = cc in
        let h : length y < length bs = ih (x, y) refl in
        subst (λ (r : List ℕ × List ℕ). length r.1 < length (b ∷ bs)) z (omega arith)

    go : (t : Bool) → (b == d) ≡ t → (if t then Some ([], bs) else with_front b (halves d bs)) ≡ Some p → ((r : List ℕ × List ℕ) → halves d bs ≡ Some r → length r.1 < length bs) → length p.1 < length (b ∷ bs)
    go true q e ih = let z : ([], bs) ≡ p = cc in subst (λ (r : List ℕ × List ℕ). length r.1 < length (b ∷ bs)) z (omega arith)
    go false q e ih = inner (halves d bs) e ih

-- a line that is right is passed
pub wrong-next : (n : ℕ) (text line rest : List ℕ) → IsFirstLine text line rest → is_right line ≡ true → wrong_from n (lines text) ≡ wrong_from (n + 1) (lines rest)
wrong-next n text line rest (inl e) h = rw e (rw h refl)
wrong-next n text line rest (inr (e, z)) h = rw e (rw h (rw z refl))

pub wrong-here : (n : ℕ) (text line rest : List ℕ) → IsFirstLine text line rest → is_right line ≡ false → wrong_from n (lines text) ≡ Some n
wrong-here n text line rest (inl e) h = rw e (rw h refl)
wrong-here n text line rest (inr (e, z)) h = rw e (rw h refl)

-- nothing is left
pub wrong-over : (n : ℕ) (left : List ℕ) → length left ≡ 0 → wrong_from n (lines left) ≡ None
wrong-over n [] h = refl
wrong-over n (b ∷ bs) h = absurd (omega arith)
