-- A prefix that is filled from its last bound on.
use Rattle.std.proofs.Common.{◌≡◌, ◌⊎◌, ℕ, zero, suc, ◌+◌, ◌<◌, ◌≤◌, Bool, true, false, List, [], ◌∷◌, length, drop, get_or, slice_get, Some, refl, sym, ◌∙◌, ap, inl, inr, arith, not-suc-le-zero}
use Rattle.std.proofs.lemmas.Option.{same_Some, none-some}
use Rattle.q_logic.specs.declared.formulas.Bound.{Bound}
use Rattle.q_logic.specs.Prelude.{same_quant, Distinct, greatest}
use Rattle.q_prefix.specs.Order.{IsRankBefore, IsFirstRank}

pub greatest-least : (B : List Bound) (k : ℕ) (b : Bound) → slice_get B k ≡ Some b → b.var ≤ greatest B
greatest-least [] k b e = absurd (none-some b e)
greatest-least (c ∷ B) zero b e = let v = ap (λ (x : Bound). x.var) (same_Some c b e) in omega arith
greatest-least (c ∷ B) (suc k) b e = let i = greatest-least B k b e in omega arith

pub drop-at : (B : List Bound) (k : ℕ) (d : Bound) → k < length B → drop k B ≡ get_or B k d ∷ drop (k + 1) B
drop-at [] k d h = absurd (not-suc-le-zero h)
drop-at (b ∷ B) zero d h = refl
drop-at (b ∷ B) (suc k) d h =
    let e : suc (k + 1) ≡ suc k + 1 = omega arith in
    drop-at B k d (omega arith) ∙ ap (λ (n : ℕ). get_or B k d ∷ drop n (b ∷ B)) e

pub get-here : (B : List Bound) (k : ℕ) (d : Bound) → k < length B → slice_get B k ≡ Some (get_or B k d)
get-here [] k d h = absurd (not-suc-le-zero h)
get-here (b ∷ B) zero d h = refl
get-here (b ∷ B) (suc k) d h = get-here B k d (omega arith)

get-first : (B : List Bound) (k : ℕ) (c : Bound) (p : List Bound) → drop k B ≡ c ∷ p → slice_get B k ≡ Some c
get-first [] zero c p e = absurd (nil-cons c p e)
  where
    nil-cons : (c : Bound) (p : List Bound) → [] ≡ c ∷ p → ⊥
    nil-cons c p e = cc
get-first [] (suc k) c p e = absurd (nil-cons c p e)
  where
    nil-cons : (c : Bound) (p : List Bound) → [] ≡ c ∷ p → ⊥
    nil-cons c p e = cc
get-first (b ∷ B) zero c p e = ap (λ (q : List Bound). slice_get q 0) e
get-first (b ∷ B) (suc k) c p e = get-first B k c p e

pub distinct-drop : (B : List Bound) (k : ℕ) → Distinct B → Distinct (drop k B)
distinct-drop [] zero d = d
distinct-drop [] (suc k) d = d
distinct-drop (b ∷ B) zero d = d
distinct-drop (b ∷ B) (suc k) d = distinct-drop B k d.1

pub first-low : (rank : ℕ → ℕ) (r low : ℕ) (p : List Bound) → 0 < length p → IsFirstRank rank r low p → low ≤ r
first-low rank r low [] h f = absurd (not-suc-le-zero h)
first-low rank r low (b ∷ p) h f = f.1

pub before-of : (rank : ℕ → ℕ) (B : List Bound) (place : ℕ) (b : Bound) (r result : ℕ) → slice_get B place ≡ Some b → IsFirstRank rank r (place + 1) (drop (place + 1) B)
    → ((b c : Bound) → slice_get B place ≡ Some b → slice_get B (place + 1) ≡ Some c → same_quant b.quant c.quant ≡ true → result ≡ r)
    → ((b c : Bound) → slice_get B place ≡ Some b → slice_get B (place + 1) ≡ Some c → same_quant b.quant c.quant ≡ false → result ≡ place)
    → IsRankBefore rank b result (drop (place + 1) B)
before-of rank B place b r result e f same other = go (drop (place + 1) B) refl f
  where
    cases : (t : Bool) (c : Bound) → same_quant b.quant c.quant ≡ t → slice_get B (place + 1) ≡ Some c → (rank c.var ≡ r) × (place + 1 ≤ r)
        → ((same_quant b.quant c.quant ≡ true) × (result ≡ rank c.var)) ⊎ ((same_quant b.quant c.quant ≡ false) × (result < rank c.var))
    cases true c q g h = inl (q, same b c e g q ∙ sym h.0)
    cases false c q g h = let n = other b c e g q in inr (q, omega (arith, n, h.0, h.1))

    go : (p : List Bound) → drop (place + 1) B ≡ p → IsFirstRank rank r (place + 1) p → IsRankBefore rank b result p
    go [] q h = tt
    go (c ∷ p) q h = cases (same_quant b.quant c.quant) c refl (get-first B (place + 1) c p q) h
