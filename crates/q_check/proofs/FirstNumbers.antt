-- The clauses of a formula, in the slots from 0 on, have the numbers from 1 on.
use Rattle.std.proofs.Common.{◌≡◌, ℕ, zero, suc, ◌<◌, ◌≤◌, List, [], ◌∷◌, ◌++◌, ◌⊎◌, inl, inr, refl, sym, ap, ◌∙◌, subst, Option, None, Some, slice_get, take, length, arith, suc-le-suc, le_of_suc-le-suc, not-suc-le-zero}
use Rattle.std.proofs.lemmas.Option.{slice_get_within}
use Rattle.q_logic.specs.Prelude.{Clause, Matrix, Slots, slot, live, numbered}
use Rattle.q_prop.specs.Slots.{Holds, filled}
use Rattle.q_prop.proofs.SlotLemmas.{slice_get-there, slice_get-push_cases, slice_get-append, slice_get-end, take-slice_get}
use Rattle.q_logic.proofs.Common.{SameClauses, alike-refl}
use Rattle.q_check.specs.Numbers.{IsAt, numbered_by, AreNumbered, counted}
use Rattle.q_check.proofs.NumberedSteps.{numbered-append}

pub filled-live : (s : Slots) → filled s ≡ live s
filled-live [] = refl
filled-live (None ∷ s) = filled-live s
filled-live (Some C ∷ s) = ap (λ (X : Matrix). C ∷ X) (filled-live s)

length-counted : (n : ℕ) → length (counted n) ≡ n
length-counted zero = refl
length-counted (suc n) = pushed (counted n) (Some n) ∙ ap suc (length-counted n)
  where
    pushed : (xs : List (Option ℕ)) (x : Option ℕ) → length (xs ++ x ∷ []) ≡ suc (length xs)
    pushed [] x = refl
    pushed (y ∷ xs) x = ap suc (pushed xs x)

counted-at : (n m h : ℕ) → IsAt (counted n) m h → (m ≡ h) × (h < n)
counted-at zero m h e = cc
counted-at (suc n) m h e = go (counted-at n m h) (slice_get-push_cases (counted n) (Some n) (Some h) m e)
  where
    inner : Some n ≡ Some h → n ≡ h
    inner q = cc

    go : (IsAt (counted n) m h → (m ≡ h) × (h < n)) → IsAt (counted n) m h ⊎ ((m ≡ length (counted n)) × (Some n ≡ Some h)) → (m ≡ h) × (h < suc n)
    go ih (inl i) = let r = ih i in (r.0, (let l = r.1 in omega arith))
    go ih (inr (q, s)) = let t = inner s in (q ∙ length-counted n ∙ t, (omega arith))

at-counted : (n h : ℕ) → h < n → IsAt (counted n) h h
at-counted zero h l = absurd (not-suc-le-zero l)
at-counted (suc n) h l = go (order h n l) (λ a. at-counted n h a)
  where
    order : (h n : ℕ) → h < suc n → (h < n) ⊎ (h ≡ n)
    order zero zero l = inr refl
    order zero (suc n) l = inl (omega arith)
    order (suc h) zero l = absurd (omega arith)
    order (suc h) (suc n) l = elim (order h n (le_of_suc-le-suc l)) [ inl a ↦ inl (suc-le-suc a) | inr e ↦ inr (ap suc e) ]

    go : (h < n) ⊎ (h ≡ n) → (h < n → IsAt (counted n) h h) → IsAt (counted (suc n)) h h
    go (inl a) ih = slice_get-append (counted n) (Some n ∷ []) h (Some h) (ih a)
    go (inr e) ih =
        let x : IsAt (counted (suc n)) n n = subst (λ (m : ℕ). IsAt (counted (suc n)) m n) (length-counted n) (slice_get-end (counted n) (Some n)) in
        subst (λ (m : ℕ). IsAt (counted (suc n)) m m) (sym e) x

numbered-counted : (s : Slots) (n : ℕ) → n ≤ length s → numbered_by s (counted n) ≡ take n s
numbered-counted s zero l = refl
numbered-counted s (suc n) l =
    let o = slice_get-there s n l in
    numbered-append s (counted n) (Some n ∷ []) ∙
    ap (λ (N : Slots). N ++ slot s n ∷ []) (numbered-counted s n (omega arith)) ∙
    ap (λ (x : Option Clause). take n s ++ x ∷ []) (got s n o.0 o.1) ∙
    sym (take-slice_get s n o.0 o.1)
  where
    got : (s : Slots) (n : ℕ) (o : Option Clause) → slice_get s n ≡ Some o → slot s n ≡ o
    got [] n o e = cc
    got (x ∷ s) zero o e = cc
    got (x ∷ s) (suc n) o e = got s n o e

take-all : (s : Slots) (n : ℕ) → n ≡ length s → take n s ≡ s
take-all [] zero e = refl
take-all [] (suc n) e = absurd (omega arith)
take-all (x ∷ s) zero e = absurd (omega arith)
take-all (x ∷ s) (suc n) e = ap (λ (t : Slots). x ∷ t) (take-all s n (omega arith))

pub length-numbered_matrix : (X : Matrix) → length (numbered X) ≡ length X
length-numbered_matrix [] = refl
length-numbered_matrix (C ∷ X) = ap suc (length-numbered_matrix X)

numbered-holds : (X : Matrix) (h : ℕ) → h < length X → (C : Clause) × Holds (numbered X) h C
numbered-holds [] h l = absurd (not-suc-le-zero l)
numbered-holds (C ∷ X) zero l = (C, refl)
numbered-holds (C ∷ X) (suc h) l = numbered-holds X h (le_of_suc-le-suc l)

pub begun-numbers : (X : Matrix) (n : ℕ) → n ≡ length X → numbered_by (numbered X) (None ∷ counted n) ≡ None ∷ numbered X
begun-numbers X n e =
    let l : n ≡ length (numbered X) = e ∙ sym (length-numbered_matrix X) in
    ap (λ (N : Slots). None ∷ N) (numbered-counted (numbered X) n (omega (arith, l)) ∙ take-all (numbered X) n l)

pub begun-numbered : (X : Matrix) (n : ℕ) → n ≡ length X → AreNumbered (numbered X) (None ∷ counted n)
begun-numbered X n e = record {
  held = λ m h i. held m h i;
  named = λ h D i.
      let l = slice_get_within (numbered X) h (Some D) i in
      let q = length-numbered_matrix X in
      (suc h, at-counted n h (omega arith));
  apart = λ i j h a b. apart i j h a b;
  alike = alike-through X n e;
}
  where
    alike-through : (X : Matrix) (n : ℕ) → n ≡ length X → SameClauses (filled (numbered X)) (live (numbered_by (numbered X) (None ∷ counted n)))
    alike-through X n e =
        subst (λ (Y : Matrix). SameClauses (filled (numbered X)) Y) (filled-live (numbered X) ∙ sym (ap live (begun-numbers X n e))) (alike-refl (filled (numbered X)))

    held : (m h : ℕ) → IsAt (None ∷ counted n) m h → (C : Clause) × Holds (numbered X) h C
    held zero h i = cc
    held (suc m) h i = let r = counted-at n m h i in numbered-holds X h (let l = r.1 in omega arith)

    apart : (i j h : ℕ) → IsAt (None ∷ counted n) i h → IsAt (None ∷ counted n) j h → i ≡ j
    apart zero j h a b = cc
    apart (suc i) zero h a b = cc
    apart (suc i) (suc j) h a b = ap suc ((counted-at n i h a).0 ∙ sym (counted-at n j h b).0)
