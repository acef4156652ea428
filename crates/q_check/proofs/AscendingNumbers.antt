-- The numbers of the clauses that hold a literal, in ascending order.
use Rattle.std.proofs.Common.{◌≡◌, ◌==◌, ℕ, zero, suc, ◌+◌, ◌<◌, Bool, true, false, cond, List, [], ◌∷◌, ◌⊎◌, inl, inr, refl, sym, ap, ◌∙◌, subst, None, Some, arith, Contains, IsPermutation, nat_cmp, eq-eqb}
use Rattle.std.specs.List.{AllByRecursion, dedup}
use Rattle.std.specs.List.Sorted.{IsSorted, IsStrictlySortedBy}
use Rattle.std.specs.declared.cmp.Ordering.TheVariants.{Less}
use Rattle.std.specs.Ordering.{eq_by_cmp}
use Rattle.std.specs.Cmp.{IsEquivalence}
use Rattle.std.proofs.lemmas.Cmp.{nat_cmp_total}
use Rattle.std.proofs.lemmas.List.Kept.{IsStrictlySortedBy-dedup, Contains-dedup, Contains-from_dedup}
use Rattle.std.proofs.lemmas.List.Sorted.{Contains-permutation, IsPermutation-sym}
use Rattle.std.proofs.lemmas.Bool.Decides.{nat_tests}
use Rattle.q_logic.specs.Prelude.{Literal, Clause, IsIn, Slots, slot, has, numbers_with}
use Rattle.q_logic.proofs.Common.{has-IsIn, IsIn-Contains, Contains-IsIn}
use Rattle.q_logic.proofs.HintedRuns.{numbers-IsIn}

abbrev Ascends : List ℕ → Type 0
Ascends [] = Unit {0}
Ascends (x ∷ xs) = AllByRecursion (λ y. x < y) xs × Ascends xs

all-in : (x : ℕ) (xs : List ℕ) (y : ℕ) → AllByRecursion (λ z. x < z) xs → IsIn y xs → x < y
all-in x [] y a m = elim m [ ]
all-in x (z ∷ xs) y a (inl e) = subst (λ (w : ℕ). x < w) (sym e) a.0
all-in x (z ∷ xs) y a (inr m) = all-in x xs y a.1 m

-- Ascending lists with the same members are equal.
same-ascending : (xs ys : List ℕ) → Ascends xs → Ascends ys → ((k : ℕ) → IsIn k xs → IsIn k ys) → ((k : ℕ) → IsIn k ys → IsIn k xs) → xs ≡ ys
same-ascending [] [] a b f g = refl
same-ascending [] (y ∷ ys) a b f g = elim (g y (inl refl)) [ ]
same-ascending (x ∷ xs) [] a b f g = elim (f x (inl refl)) [ ]
same-ascending (x ∷ xs) (y ∷ ys) a b f g =
    let e : x ≡ y = first (f x (inl refl)) (g y (inl refl)) in
    let r : xs ≡ ys = same-ascending xs ys a.1 b.1 (rest e) (rest_back e) in
    ap (λ (z : ℕ). z ∷ xs) e ∙ ap (λ (zs : List ℕ). y ∷ zs) r
  where
    first : (x ≡ y) ⊎ IsIn x ys → (y ≡ x) ⊎ IsIn y xs → x ≡ y
    first (inl e) m = e
    first (inr m) (inl e) = sym e
    first (inr m) (inr n) = let p = all-in y ys x b.0 m in let q = all-in x xs y a.0 n in absurd (omega arith)

    rest : x ≡ y → (k : ℕ) → IsIn k xs → IsIn k ys
    rest e k m = elim (f k (inr m)) [
      | inl q ↦ let p = all-in x xs k a.0 m in absurd (omega arith)
      | inr n ↦ n
    ]

    rest_back : x ≡ y → (k : ℕ) → IsIn k ys → IsIn k xs
    rest_back e k m = elim (g k (inr m)) [
      | inl q ↦ let p = all-in y ys k b.0 m in absurd (omega arith)
      | inr n ↦ n
    ]

-- The clauses that hold the literal, by number.
pub with-in : (m : Literal) (n : ℕ) (N : Slots) (k : ℕ) → IsIn k (numbers_with m n N) → (h : ℕ) × (D : Clause) × (k ≡ n + h) × (slot N h ≡ Some D) × IsIn m D
with-in m n [] k i = elim i [ ]
with-in m n (None ∷ N) k i = let r = with-in m (n + 1) N k i in (suc r.0, r.1, r.2 ∙ (omega arith), r.3, r.4)
with-in m n (Some C ∷ N) k i = go (has m C) refl (λ j. with-in m (n + 1) N k j) i
  where
    go : (b : Bool) → has m C ≡ b → (IsIn k (numbers_with m (n + 1) N) → (h : ℕ) × (D : Clause) × (k ≡ (n + 1) + h) × (slot N h ≡ Some D) × IsIn m D) → IsIn k (cond b (n ∷ numbers_with m (n + 1) N) (numbers_with m (n + 1) N)) → (h : ℕ) × (D : Clause) × (k ≡ n + h) × (slot (Some C ∷ N) h ≡ Some D) × IsIn m D
    go true q ih (inl e) = (zero, C, e ∙ (omega arith), refl, has-IsIn m C q)
    go true q ih (inr j) = let r = ih j in (suc r.0, r.1, r.2 ∙ (omega arith), r.3, r.4)
    go false q ih j = let r = ih j in (suc r.0, r.1, r.2 ∙ (omega arith), r.3, r.4)

above : (n : ℕ) (xs : List ℕ) → ((k : ℕ) → IsIn k xs → n < k) → AllByRecursion (λ y. n < y) xs
above n [] f = tt
above n (x ∷ xs) f = (f x (inl refl), above n xs (λ k m. f k (inr m)))

with-ascends : (m : Literal) (n : ℕ) (N : Slots) → Ascends (numbers_with m n N)
with-ascends m n [] = tt
with-ascends m n (None ∷ N) = with-ascends m (n + 1) N
with-ascends m n (Some C ∷ N) = go (has m C) (with-ascends m (n + 1) N)
  where
    go : (b : Bool) → Ascends (numbers_with m (n + 1) N) → Ascends (cond b (n ∷ numbers_with m (n + 1) N) (numbers_with m (n + 1) N))
    go true ih = (above n (numbers_with m (n + 1) N) (λ k i. let r = with-in m (n + 1) N k i in let q = r.2 in omega arith), ih)
    go false ih = ih

-- A sorted list, each once.
same_number : ℕ → ℕ → Bool
same_number x y = x == y

less-below : (k l : ℕ) → nat_cmp k l ≡ Less → k < l
less-below k l e = grind (arith, nat_tests)

all-below : (k : ℕ) (ls : List ℕ) → AllByRecursion (λ l. nat_cmp k l ≡ Less) ls → AllByRecursion (λ l. k < l) ls
all-below k [] h = tt
all-below k (l ∷ ls) h = (less-below k l h.0, all-below k ls h.1)

strict-ascends : (ls : List ℕ) → IsStrictlySortedBy nat_cmp ls → Ascends ls
unfolding IsStrictlySortedBy
strict-ascends [] h = tt
strict-ascends (l ∷ ls) h = (all-below l ls h.0, strict-ascends ls h.1)

equal-cmp : (x y : ℕ) → (x == y) ≡ eq_by_cmp nat_cmp x y
equal-cmp x y = grind (arith, nat_tests)

equal-sound : (x y : ℕ) → (x == y) ≡ true → x ≡ y
equal-sound x y e = grind (arith, nat_tests)

equal-equivalence : IsEquivalence (λ (x y : ℕ). x == y)
equal-equivalence = record {
  refl = λ x. eq-eqb x x refl;
  symm = λ x y. grind (arith, nat_tests);
  congr = λ x y z e. grind (arith, nat_tests);
}

-- Sorted, and each once, the numbers of the clauses that hold the literal are the targets.
pub sorted-with : (m : Literal) (N : Slots) (old sorted : List ℕ) → IsPermutation old sorted → IsSorted nat_cmp sorted →
    ((k : ℕ) → Contains old k → (D : Clause) × (slot N k ≡ Some D) × IsIn m D) →
    ((k : ℕ) (D : Clause) → slot N k ≡ Some D → IsIn m D → Contains old k) →
    dedup (λ x y. x == y) sorted ≡ numbers_with m 0 N
sorted-with m N old sorted p s f g =
    same-ascending (dedup (λ x y. x == y) sorted) (numbers_with m 0 N)
    (strict-ascends (dedup (λ x y. x == y) sorted) (IsStrictlySortedBy-dedup nat_cmp_total equal-cmp sorted s))
    (with-ascends m 0 N)
    (λ k h.
    let c = Contains-permutation sorted old k (IsPermutation-sym old sorted p) (Contains-from_dedup (λ x y. x == y) sorted k (IsIn-Contains k (dedup (λ x y. x == y) sorted) h)) in
    let r = f k c in
    subst (λ (i : ℕ). IsIn i (numbers_with m 0 N)) (omega arith) (numbers-IsIn m 0 N k r.0 r.1 r.2))
    (λ k h.
    let r = with-in m 0 N k h in
    let e : slot N k ≡ Some r.1 = subst (λ (i : ℕ). slot N i ≡ Some r.1) (let q = r.2 in omega arith) r.3 in
    Contains-IsIn k (dedup (λ x y. x == y) sorted)
    (Contains-dedup equal-equivalence equal-sound sorted k (Contains-permutation old sorted k p (g k r.1 e r.4))))
