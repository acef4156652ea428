-- What a binary search in a clause in literal order tells.
use Rattle.std.proofs.Common.{◌≡◌, ℕ, zero, suc, ◌<◌, ◌≤◌, Bool, true, false, [], ◌∷◌, length, get_or, Result, Ok, Err, is_ok, nat_cmp, refl, sym, subst, inl, inr, ◌⊎◌, arith}
use Rattle.std.specs.declared.cmp.Ordering.TheVariants.{Less, Equal, Greater}
use Rattle.std.specs.Ordering.{ordering_index}
use Rattle.std.specs.List.{AllByRecursion}
use Rattle.std.specs.List.Sorted.{IsBinarySearchResult, IsSearchInRange}
use Rattle.std.proofs.lemmas.Bool.Decides.{nat_tests}
use Rattle.q_logic.specs.Prelude.{Literal, IsBelow, pack, Clause, IsIn, ArePairs, has}
use Rattle.q_logic.proofs.Common.{get_or-IsIn, pack-same, has-IsIn, IsIn-has}

equal-codes : (m n : ℕ) → nat_cmp m n ≡ Equal → m ≡ n
equal-codes m n e = grind (arith, nat_tests)

less-codes : (m n : ℕ) → nat_cmp m n ≡ Less → m < n
less-codes m n e = grind (arith, nat_tests)

greater-codes : (m n : ℕ) → nat_cmp m n ≡ Greater → n < m
greater-codes m n e = grind (arith, nat_tests)

index-rises : (m n x : ℕ) → m ≤ n → ordering_index (nat_cmp m x) ≤ ordering_index (nat_cmp n x)
index-rises m n x h = grind (arith, nat_tests)

below-code : (k l : Literal) → IsBelow k l → pack k ≤ pack l
below-code k l h = grind (arith, nat_tests)

first-below : (k : Literal) (C : Clause) (j : ℕ) (d : Literal) → AllByRecursion (IsBelow k) C → j < length C → pack k ≤ pack (get_or C j d)
first-below k [] j d h l = absurd (omega arith)
first-below k (x ∷ C) zero d h l = below-code k x h.0
first-below k (x ∷ C) (suc j) d h l = first-below k C j d h.1 (omega arith)

codes-rise : (C : Clause) (i j : ℕ) (d : Literal) → ArePairs IsBelow C → i ≤ j → j < length C → pack (get_or C i d) ≤ pack (get_or C j d)
codes-rise [] i j d h e l = absurd (omega arith)
codes-rise (k ∷ C) zero zero d h e l = omega arith
codes-rise (k ∷ C) zero (suc j) d h e l = first-below k C j d h.0 (omega arith)
codes-rise (k ∷ C) (suc i) zero d h e l = absurd (omega arith)
codes-rise (k ∷ C) (suc i) (suc j) d h e l = codes-rise C i j d h.1 (omega arith) (omega arith)

place-of : (C : Clause) (l : Literal) → IsIn l C → (i : ℕ) × (i < length C) × (get_or C i l ≡ l)
place-of [] l m = elim m [ ]
place-of (k ∷ C) l (inl e) = (0, omega arith, sym e)
place-of (k ∷ C) l (inr m) = let r = place-of C l m in (suc r.0, (let h = r.1 in omega arith), r.2)

before-or : (k i : ℕ) → (k < i) ⊎ (i ≤ k)
before-or k i = grind arith

pub found-held : (C : Clause) (l : Literal) (r : Result ℕ ℕ) → ArePairs IsBelow C → IsSearchInRange r (length C) →
    IsBinarySearchResult (λ y. nat_cmp (pack y) (pack l)) C r → is_ok r ≡ has l C
found-held C l (Ok i) h b s =
    let q : pack (get_or C i l) ≡ pack l = equal-codes (pack (get_or C i l)) (pack l) (s l) in
    sym (IsIn-has l C (subst (λ (x : Literal). IsIn x C) (pack-same (get_or C i l) l q) (get_or-IsIn C i l b)))
found-held C l (Err i) h b s = go (has l C) refl
  where
    go : (t : Bool) → has l C ≡ t → false ≡ t
    go false e = refl
    go true e =
        let p = place-of C l (has-IsIn l C e) in
        let z = s (λ i j d a b. index-rises (pack (get_or C i d)) (pack (get_or C j d)) (pack l) (codes-rise C i j d h a b)) in
        absurd (elim (before-or p.0 i) [
          | inl a ↦
              let w : pack (get_or C p.0 l) < pack l = less-codes (pack (get_or C p.0 l)) (pack l) (z.0 p.0 l (omega arith) a) in
              let v : pack l < pack l = subst (λ (x : Literal). pack x < pack l) p.2 w in omega arith
          | inr a ↦
              let w : pack l < pack (get_or C p.0 l) = greater-codes (pack (get_or C p.0 l)) (pack l) (z.1 p.0 l a p.1) in
              let v : pack l < pack l = subst (λ (x : Literal). pack l < pack x) p.2 w in omega arith
        ])
