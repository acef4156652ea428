-- Where a matrix has the empty clause.
use Rattle.std.proofs.Common.{◌≡◌, ℕ, zero, suc, ◌+◌, ◌<◌, ◌≤◌, [], ◌∷◌, length, slice_get, inl, inr, arith, sym, ap, ◌∙◌, subst, Some}
use Rattle.std.proofs.lemmas.Bool.{cases_lt}
use Rattle.q_logic.specs.Prelude.{Clause, Matrix, IsIn}

IsIn-at : (X : Matrix) (k : ℕ) (C : Clause) → slice_get X k ≡ Some C → IsIn C X
IsIn-at [] k C e = absurd (cc)
IsIn-at (D ∷ X) zero C e = inl (cc)
IsIn-at (D ∷ X) (suc k) C e = inr (IsIn-at X k C e)

at-IsIn : (X : Matrix) (C : Clause) → IsIn C X → (k : ℕ) × (k < length X) × (slice_get X k ≡ Some C)
at-IsIn [] C h = absurd h
at-IsIn (D ∷ X) C h = elim h [
  | inl e ↦ (0, omega arith, ap Some (sym e))
  | inr m ↦ let r = at-IsIn X C m in let lt : r.0 < length X = r.1 in (suc r.0, omega arith, r.2)
]

pub empty-there : (X : Matrix) (k : ℕ) (C : Clause) → slice_get X k ≡ Some C → length C ≡ 0 → IsIn [] X
empty-there X k [] e z = IsIn-at X k [] e
empty-there X k (l ∷ C) e z = absurd (omega arith)

pub empty-none : (X : Matrix) (n : ℕ) → length X ≤ n → ((k : ℕ) → k < n → slice_get X k ≡ Some [] → ⊥) → IsIn [] X → ⊥
empty-none X n le h m = let r = at-IsIn X [] m in let lt : r.0 < length X = r.1 in h r.0 (omega arith) r.2

pub nonempty-more : (X : Matrix) (n : ℕ) (C : Clause) → slice_get X n ≡ Some C → (length C ≡ 0 → ⊥) → ((k : ℕ) → k < n → slice_get X k ≡ Some [] → ⊥) → (k : ℕ) → k < n + 1 → slice_get X k ≡ Some [] → ⊥
nonempty-more X n C e z h k lt f = elim (cases_lt k n) [
  | inl a ↦ h k a f
  | inr a ↦
      let j : k ≡ n = omega arith in
      let g : slice_get X n ≡ Some [] = subst (λ (i : ℕ). slice_get X i ≡ Some []) j f in
      let s : C ≡ [] = same C [] (sym e ∙ g) in
      z (ap length s)
]
  where
    same : (A B : Clause) → Some A ≡ Some B → A ≡ B
    same A B q = cc
