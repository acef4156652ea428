-- What follows a number in a list, and what precedes it.
use Rattle.std.proofs.Common.{◌≡◌, ◌≢◌, ℕ, zero, suc, List, [], ◌∷◌, None, Some, slice_get, refl, sym, ◌∙◌, ap, subst, inl, inr, arith}
use Rattle.std.proofs.lemmas.Bool.Decides.{nat_tests}
use Rattle.std.proofs.lemmas.Option.{same_Some, none-some}
use Rattle.std.proofs.lemmas.Bool.{cases_eq}
use Rattle.q_arena.specs.Rings.{Has, Misses, AreApart}
use Rattle.q_arena.specs.Chains.{following, preceding_from, preceding}
use Rattle.q_arena.specs.Gaps.{or_else}

pub get-has : (L : List ℕ) (i v : ℕ) → slice_get L i ≡ Some v → Has L v
get-has [] i v e = absurd (none-some v e)
get-has (u ∷ L) zero v e = inl (sym (same_Some u v e))
get-has (u ∷ L) (suc i) v e = inr (get-has L i v e)

pub following-here : (p y : ℕ) (ys : List ℕ) → y ≡ p → following p (y ∷ ys) ≡ slice_get ys 0
following-here p y ys e = grind (arith, nat_tests)

pub following-later : (p y : ℕ) (ys : List ℕ) → y ≢ p → following p (y ∷ ys) ≡ following p ys
following-later p y ys n = grind (arith, nat_tests)

pub following-has : (p q : ℕ) (ys : List ℕ) → following p ys ≡ Some q → Has ys q
following-has p q [] e = absurd (none-some q e)
following-has p q (y ∷ ys) e = elim (cases_eq y p) [
  | inl f ↦ inr (get-has ys 0 q (sym (following-here p y ys f) ∙ e))
  | inr n ↦ inr (following-has p q ys (sym (following-later p y ys n) ∙ e))
]

pub followed-has : (p q : ℕ) (ys : List ℕ) → following p ys ≡ Some q → Has ys p
followed-has p q [] e = absurd (none-some q e)
followed-has p q (y ∷ ys) e = elim (cases_eq y p) [
  | inl f ↦ inl (sym f)
  | inr n ↦ inr (followed-has p q ys (sym (following-later p y ys n) ∙ e))
]

pub preceding-here : (p j k : ℕ) (ks : List ℕ) → k ≡ p → preceding_from p j (k ∷ ks) ≡ Some j
preceding-here p j k ks e = grind (arith, nat_tests)

pub preceding-later : (p j k : ℕ) (ks : List ℕ) → k ≢ p → preceding_from p j (k ∷ ks) ≡ preceding_from p k ks
preceding-later p j k ks n = grind (arith, nat_tests)

pub preceding-none : (p j : ℕ) (ks : List ℕ) → Misses p ks → preceding_from p j ks ≡ None
preceding-none p j [] m = refl
preceding-none p j (k ∷ ks) m = preceding-later p j k ks (λ e. m.0 (sym e)) ∙ preceding-none p k ks m.1

preceding-some : (p j : ℕ) (ks : List ℕ) → Has ks p → (x : ℕ) × (preceding_from p j ks ≡ Some x)
preceding-some p j [] h = absurd h
preceding-some p j (k ∷ ks) h = elim (cases_eq k p) [
  | inl e ↦ (j, preceding-here p j k ks e)
  | inr n ↦ elim h [
    | inl e ↦ absurd (n (sym e))
    | inr i ↦ let r = preceding-some p k ks i in (r.0, preceding-later p j k ks n ∙ r.1)
  ]
]

-- one more number in front
pub preceding-first : (p j : ℕ) (js : List ℕ) → AreApart js → Has js p → preceding p (j ∷ js) ≡ or_else (preceding p js) (Some j)
preceding-first p j [] a h = absurd h
preceding-first p j (k ∷ ks) a h = elim (cases_eq k p) [
  | inl e ↦
      let none : preceding p (k ∷ ks) ≡ None = preceding-none p k ks (subst (λ (n : ℕ). Misses n ks) e a.0) in
      preceding-here p j k ks e ∙ sym (ap (λ o. or_else o (Some j)) none)
  | inr n ↦ elim h [
    | inl e ↦ absurd (n (sym e))
    | inr i ↦
        let r = preceding-some p k ks i in
        preceding-later p j k ks n ∙ r.1 ∙ sym (ap (λ o. or_else o (Some j)) r.1)
  ]
]
