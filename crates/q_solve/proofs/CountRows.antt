-- Rows behind vectors.
use Rattle.std.proofs.Common.{cond, eqb, ◌≡◌, ℕ, zero, suc, ◌<◌, Bool, true, false, List, [], ◌∷◌, ◌++◌, map, set, length, get_or, refl, sym, ap, ◌∙◌, arith}

suc-suc : (n k : ℕ) → eqb (suc n) (suc k) ≡ eqb n k
suc-suc n k = go (eqb n k) refl
  where
    go : (b : Bool) → eqb n k ≡ b → eqb (suc n) (suc k) ≡ b
    go true e = grind arith
    go false e = grind arith

zero-suc : (k : ℕ) → eqb zero (suc k) ≡ false
zero-suc k = grind arith

suc-zero : (n : ℕ) → eqb (suc n) zero ≡ false
suc-zero n = grind arith

pub pushed : {A B : Type 0} (f : A → List B) (vs : List A) (w d : A) (k : ℕ) (x : B) → k < length vs → f w ≡ f (get_or vs k d) ++ x ∷ [] →
    (n : ℕ) → get_or (map f (set vs k w)) n [] ≡ cond (eqb n k) (get_or (map f vs) n [] ++ x ∷ []) (get_or (map f vs) n [])
pushed f [] w d k x h e n = absurd (omega arith)
pushed f (v ∷ vs) w d zero x h e zero = e
pushed f (v ∷ vs) w d zero x h e (suc n) = ap (λ (b : Bool). cond b (get_or (map f vs) n [] ++ x ∷ []) (get_or (map f vs) n [])) (sym (suc-zero n))
pushed f (v ∷ vs) w d (suc k) x h e zero = ap (λ (b : Bool). cond b (f v ++ x ∷ []) (f v)) (sym (zero-suc k))
pushed f (v ∷ vs) w d (suc k) x h e (suc n) =
    pushed f vs w d k x (omega arith) e n ∙ ap (λ (b : Bool). cond b (get_or (map f vs) n [] ++ x ∷ []) (get_or (map f vs) n [])) (sym (suc-suc n k))
