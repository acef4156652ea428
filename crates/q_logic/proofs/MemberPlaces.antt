-- Members of a list by places, and what a test tells.
use Rattle.std.proofs.Common.{◌≡◌, ◌⊎◌, ℕ, zero, suc, ◌+◌, ◌<◌, ◌≤◌, Bool, true, false, not, List, [], ◌∷◌, take, get_or, length, refl, sym, ap, subst, inl, inr, arith}
use Rattle.q_logic.specs.Prelude.{IsIn}
use Rattle.q_logic.proofs.ClauseLemmas.{IsIn-append, IsIn-append_left, IsIn-append_right}
use Rattle.q_logic.proofs.Lists.{taken}

module _ {X : Type 0} where
  pub item-in : (xs : List X) (i : ℕ) (k : X) → i < length xs → k ≡ get_or xs i k → IsIn k xs
  item-in [] i k h e = absurd (omega arith)
  item-in (x ∷ xs) zero k h e = inl e
  item-in (x ∷ xs) (suc i) k h e = inr (item-in xs i k (omega arith) e)

  -- members of a beginning that is longer by one
  pub taken-cases : (xs : List X) (n : ℕ) (y k : X) → n < length xs → y ≡ get_or xs n y → IsIn k (take (n + 1) xs) → IsIn k (take n xs) ⊎ (k ≡ y)
  taken-cases xs n y k h e m = elim (IsIn-append k (take n xs) (y ∷ []) (subst (λ (ys : List X). IsIn k ys) (taken xs n y h e) m)) [
    | inl a ↦ inl a
    | inr a ↦ elim a [ inl b ↦ inr b | inr b ↦ absurd b ]
  ]

  pub taken-more : (xs : List X) (n : ℕ) (y k : X) → n < length xs → y ≡ get_or xs n y → IsIn k (take n xs) → IsIn k (take (n + 1) xs)
  taken-more xs n y k h e m = subst (λ (ys : List X). IsIn k ys) (sym (taken xs n y h e)) (IsIn-append_left k (take n xs) (y ∷ []) m)

  pub taken-last : (xs : List X) (n : ℕ) (y : X) → n < length xs → y ≡ get_or xs n y → IsIn y (take (n + 1) xs)
  taken-last xs n y h e = subst (λ (ys : List X). IsIn y ys) (sym (taken xs n y h e)) (IsIn-append_right y (take n xs) (y ∷ []) (inl refl))

  pub taken-all : (xs : List X) (n : ℕ) → length xs ≤ n → take n xs ≡ xs
  taken-all [] zero h = refl
  taken-all [] (suc n) h = refl
  taken-all (x ∷ xs) zero h = absurd (omega arith)
  taken-all (x ∷ xs) (suc n) h = ap (λ (ys : List X). x ∷ ys) (taken-all xs n (omega arith))

pub test-false : {A : Type 0} (b : Bool) → (b ≡ true → A) × (A → b ≡ true) → b ≡ false → A → ⊥
test-false true h e a = let z : true ≡ false = e in absurd (cc)
test-false false h e a = let z : false ≡ true = h.1 a in absurd (cc)

pub test-not : {A : Type 0} (b : Bool) → (b ≡ true → A) × (A → b ≡ true) → not b ≡ true → A → ⊥
test-not true h e a = let z : false ≡ true = e in absurd (cc)
test-not false h e a = let z : false ≡ true = h.1 a in absurd (cc)
