-- The free variables of a formula.
use Rattle.std.proofs.Common.{◌≡◌, ◌≢◌, ◌⊎◌, ℕ, zero, suc, ◌+◌, ◌<◌, ◌≤◌, ◌==◌, Bool, true, false, cond, List, [], ◌∷◌, ◌++◌, refl, ap, sym, ◌∙◌, arith, add-zero, add-one, append-nil, subst, inl, inr, eq-eqb}
use Rattle.std.specs.List.{AllByRecursion}
use Rattle.q_logic.specs.Prelude.{Literal, ArePairs, IsBound, Clause, IsIn, Prefix, Matrix, is_bound}
use Rattle.std.proofs.lemmas.Bool.Decides.{nat_tests, eqb_tells}
use Rattle.std.proofs.lemmas.Bool.{or_left, or_right}
use Rattle.q_logic.specs.declared.formulas.Bound.{Bound}
use Rattle.q_logic.specs.declared.formulas.Quant.TheVariants.{Exists}
use Rattle.q_logic.proofs.Common.{all-append}
use Rattle.q_dimacs.specs.Building.{bounds_from, occurs, occurs_in, greatest, greatest_in}

abbrev free_at : Bool → ℕ → Prefix
free_at b v = cond b (record { quant = Exists; var = v } ∷ []) []

pub bounds-next : (t : ℕ → Bool) (v n : ℕ) → bounds_from t v (suc n) ≡ bounds_from t v n ++ free_at (t (v + n)) (v + n)
bounds-next t v zero = rw add-zero (go (t v)) where
  go : (b : Bool) → cond b (record { quant = Exists; var = v } ∷ []) [] ≡ [] ++ free_at b v
  go true = refl
  go false = refl
bounds-next t v (suc n) = go (t v) (bounds-next t (v + 1) n) where
  e : (v + 1) + n ≡ v + suc n
  e = omega arith

  go : (b : Bool) → bounds_from t (v + 1) (suc n) ≡ bounds_from t (v + 1) n ++ free_at (t ((v + 1) + n)) ((v + 1) + n)
      → cond b (record { quant = Exists; var = v } ∷ bounds_from t (v + 1) (suc n)) (bounds_from t (v + 1) (suc n))
      ≡ cond b (record { quant = Exists; var = v } ∷ bounds_from t (v + 1) n) (bounds_from t (v + 1) n) ++ free_at (t (v + suc n)) (v + suc n)
  go true ih = ap (λ p. record { quant = Exists; var = v } ∷ p) (rw e at ih)
  go false ih = rw e at ih

pub bounds-yes : (t : ℕ → Bool) (n : ℕ) → t n ≡ true → bounds_from t 0 (n + 1) ≡ bounds_from t 0 n ++ record { quant = Exists; var = n } ∷ []
bounds-yes t n h = let e = bounds-next t 0 n in let z : 0 + n ≡ n = omega arith in rw add-one (rw (z, h) at e)

pub bounds-no : (t : ℕ → Bool) (n : ℕ) → t n ≡ false → bounds_from t 0 (n + 1) ≡ bounds_from t 0 n
bounds-no t n h = let e = bounds-next t 0 n in let z : 0 + n ≡ n = omega arith in rw add-one ((rw (z, h) at e) ∙ append-nil (bounds_from t 0 n))

pub bounds-same : (t f : ℕ → Bool) (v n : ℕ) → ((k : ℕ) → t k ≡ f k) → bounds_from t v n ≡ bounds_from f v n
bounds-same t f v zero h = refl
bounds-same t f v (suc n) h = rw (h v) (go (f v) (bounds-same t f (v + 1) n h)) where
  go : (b : Bool) → bounds_from t (v + 1) n ≡ bounds_from f (v + 1) n → cond b (record { quant = Exists; var = v } ∷ bounds_from t (v + 1) n) (bounds_from t (v + 1) n) ≡ cond b (record { quant = Exists; var = v } ∷ bounds_from f (v + 1) n) (bounds_from f (v + 1) n)
  go true e = ap (λ p. record { quant = Exists; var = v } ∷ p) e
  go false e = e

pub bounds-none : (f : ℕ → Bool) (v n : ℕ) → ((k : ℕ) → v ≤ k → f k ≡ false) → bounds_from f v n ≡ []
bounds-none f v zero h = refl
bounds-none f v (suc n) h = rw (h v (omega arith)) (bounds-none f (v + 1) n (λ k l. h k (omega arith)))

pub bounds-trim : (f : ℕ → Bool) (v n m : ℕ) → ((k : ℕ) → v + n ≤ k → f k ≡ false) → ((k : ℕ) → v + m ≤ k → f k ≡ false) → bounds_from f v n ≡ bounds_from f v m
bounds-trim f v zero m h g = sym (bounds-none f v m (λ k l. h k (omega arith)))
bounds-trim f v (suc n) zero h g = bounds-none f v (suc n) (λ k l. g k (omega arith))
bounds-trim f v (suc n) (suc m) h g = go (f v) (bounds-trim f (v + 1) n m (λ k l. h k (omega arith)) (λ k l. g k (omega arith))) where
  go : (b : Bool) → bounds_from f (v + 1) n ≡ bounds_from f (v + 1) m → cond b (record { quant = Exists; var = v } ∷ bounds_from f (v + 1) n) (bounds_from f (v + 1) n) ≡ cond b (record { quant = Exists; var = v } ∷ bounds_from f (v + 1) m) (bounds_from f (v + 1) m)
  go true e = ap (λ p. record { quant = Exists; var = v } ∷ p) e
  go false e = e

-- what holds of each variable that passes holds of each bound
pub bounds-all : (P : Bound → Type 0) (f : ℕ → Bool) (v n : ℕ) → ((k : ℕ) → v ≤ k → f k ≡ true → P (record { quant = Exists; var = k })) → AllByRecursion P (bounds_from f v n)
bounds-all P f v zero h = tt
bounds-all P f v (suc n) h = go (f v) (h v (omega arith)) (bounds-all P f (v + 1) n (λ k l. h k (omega arith))) where
  go : (b : Bool) → (b ≡ true → P (record { quant = Exists; var = v })) → AllByRecursion P (bounds_from f (v + 1) n) → AllByRecursion P (cond b (record { quant = Exists; var = v } ∷ bounds_from f (v + 1) n) (bounds_from f (v + 1) n))
  go true p a = (p refl, a)
  go false p a = a

pub bounds-distinct : (f : ℕ → Bool) (v n : ℕ) → ArePairs (λ q r. q.var ≢ r.var) (bounds_from f v n)
bounds-distinct f v zero = tt
bounds-distinct f v (suc n) = go (f v) (bounds-all (λ r. v ≢ r.var) f (v + 1) n (λ k l t. omega arith)) (bounds-distinct f (v + 1) n) where
  go : (b : Bool) → AllByRecursion (λ r. v ≢ r.var) (bounds_from f (v + 1) n) → ArePairs (λ q r. q.var ≢ r.var) (bounds_from f (v + 1) n) → ArePairs (λ q r. q.var ≢ r.var) (cond b (record { quant = Exists; var = v } ∷ bounds_from f (v + 1) n) (bounds_from f (v + 1) n))
  go true a p = (a, p)
  go false a p = p

pub bounds-has : (f : ℕ → Bool) (v n k : ℕ) → v ≤ k → k < v + n → f k ≡ true → IsBound (bounds_from f v n) k
bounds-has f v zero k l h t = absurd (omega arith)
bounds-has f v (suc n) k l h t = go (f v) refl (eqb_tells v k) (λ g. bounds-has f (v + 1) n k g (omega arith) t) where
  go : (b : Bool) → f v ≡ b → ((v == k) ≡ true) × (v ≡ k) ⊎ ((v == k) ≡ false) × (v ≢ k) → (v + 1 ≤ k → IsBound (bounds_from f (v + 1) n) k) → IsBound (cond b (record { quant = Exists; var = v } ∷ bounds_from f (v + 1) n) (bounds_from f (v + 1) n)) k
  go true e (inl d) ih = inl d.1
  go true e (inr d) ih = let o = d.1 in inr (ih (omega arith))
  go false e (inl d) ih = absurd (let j = d.1 in let z : f v ≡ true = rw j t in cc)
  go false e (inr d) ih = let o = d.1 in ih (omega arith)

-- above the greatest variable none occurs
none-above-in : (ls : List Literal) (k : ℕ) → greatest_in ls < k → occurs_in ls k ≡ false
none-above-in [] k h = refl
none-above-in (l ∷ ls) k h = let e : (l.var == k) ≡ false = grind (arith, nat_tests) in rw e (none-above-in ls k (omega arith))

pub none-above : (x : Matrix) (k : ℕ) → greatest x < k → occurs x k ≡ false
none-above [] k h = refl
none-above (c ∷ x) k h = rw (none-above-in c k (omega arith)) (none-above x k (omega arith))

-- the variable of each literal of a clause occurs
occurs_in-IsIn : (C : Clause) (k : Literal) → IsIn k C → occurs_in C k.var ≡ true
occurs_in-IsIn [] k m = elim m [ ]
occurs_in-IsIn (l ∷ C) k (inl e) = let f : (l.var == k.var) ≡ true = eq-eqb l.var k.var (ap (λ (x : Literal). x.var) (sym e)) in rw f refl
occurs_in-IsIn (l ∷ C) k (inr m) = or_right (l.var == k.var) (occurs_in C k.var) (occurs_in-IsIn C k m)

pub occurs-IsIn : (X : Matrix) (D : Clause) (k : Literal) → IsIn D X → IsIn k D → occurs X k.var ≡ true
occurs-IsIn [] D k m n = elim m [ ]
occurs-IsIn (C ∷ X) D k (inl e) n = or_left (occurs_in C k.var) (occurs X k.var) (occurs_in-IsIn C k (subst (λ (x : Clause). IsIn k x) e n))
occurs-IsIn (C ∷ X) D k (inr m) n = or_right (occurs_in C k.var) (occurs X k.var) (occurs-IsIn X D k m n)

pub pairs-append : {X : Type 0} (R : X → X → Type 0) (xs ys : List X) → ArePairs R xs → ArePairs R ys → AllByRecursion (λ x. AllByRecursion (R x) ys) xs → ArePairs R (xs ++ ys)
pairs-append R [] ys h k a = k
pairs-append R (x ∷ xs) ys h k a = (all-append (R x) xs ys h.0 a.0, pairs-append R xs ys h.1 k a.1)

pub is-append-left : (p q : Prefix) (v : ℕ) → IsBound p v → IsBound (p ++ q) v
is-append-left [] q v h = absurd h
is-append-left (r ∷ p) q v (inl e) = inl e
is-append-left (r ∷ p) q v (inr h) = inr (is-append-left p q v h)

pub is-append-right : (p q : Prefix) (v : ℕ) → IsBound q v → IsBound (p ++ q) v
is-append-right [] q v h = h
is-append-right (r ∷ p) q v h = inr (is-append-right p q v h)

pub apart : (p : Prefix) (v : ℕ) → is_bound p v ≡ false → AllByRecursion (λ r. v ≢ r.var) p
apart [] v e = tt
apart (r ∷ p) v e = go (eqb_tells r.var v) e (apart p v) where
  go : ((r.var == v) ≡ true) × (r.var ≡ v) ⊎ ((r.var == v) ≡ false) × (r.var ≢ v) → cond (r.var == v) true (is_bound p v) ≡ false → (is_bound p v ≡ false → AllByRecursion (λ r. v ≢ r.var) p) → (v ≢ r.var) × AllByRecursion (λ r. v ≢ r.var) p
  go (inl d) e ih = let f = rw d.0 at e in cc
  go (inr d) e ih = ((λ x. d.1 (sym x)), ih (rw d.0 at e))
