-- Levels that never rise.
use Rattle.std.proofs.Common.{◌≡◌, ◌≢◌, ◌≤◌, ◌<◌, ◌+◌, ◌⊎◌, ℕ, List, [], ◌∷◌, get_or, length, Option, Some, None, sym, ◌∙◌, ap, subst, inl, inr, arith}
use Rattle.std.proofs.lemmas.Option.{same_Some}
use Rattle.q_logic.specs.Prelude.{Literal, IsBelow, negation, Clause, Matrix, IsIn, ArePairs, Slots, slot, live}
use Rattle.q_logic.proofs.Common.{negation-negation}
use Rattle.q_logic.proofs.HintChains.{live-number}
use Rattle.q_equiv.specs.Walks.{level_of, NeverRise}
use Rattle.q_equiv.proofs.BinaryClauses.{binary-own, pair-other}

pub other-falls : (levels : List ℕ) (C : Clause) → ArePairs IsBelow C → length C ≢ 2 → NeverRise levels (C ∷ [])
other-falls levels C o n x y b = absurd (pair-other C x y o n b)

pub pair-falls : (levels : List ℕ) (C : Clause) (a b : Literal) → length C ≡ 2 → a ≡ get_or C 0 a → b ≡ get_or C 1 b → level_of levels b ≤ level_of levels (negation a) → level_of levels a ≤ level_of levels (negation b) → NeverRise levels (C ∷ [])
pair-falls levels [] a b n e f g h x y w = absurd (omega arith)
pair-falls levels (i ∷ []) a b n e f g h x y w = absurd (omega arith)
pair-falls levels (i ∷ j ∷ k ∷ C) a b n e f g h x y w = absurd (omega arith)
pair-falls levels (i ∷ j ∷ []) a b n e f g h x y w = elim w.there [
  | inl q ↦ go (subst (λ (D : Clause). IsIn (negation x) D) q w.first) (subst (λ (D : Clause). IsIn y D) q w.second)
  | inr z ↦ absurd z
]
  where
    -- from the negation of one to the other
    step : (k l : Literal) → negation x ≡ k → y ≡ l → level_of levels l ≤ level_of levels (negation k) → level_of levels y ≤ level_of levels x
    step k l p q r =
        let s : level_of levels (negation k) ≡ level_of levels x = ap (level_of levels) (sym (ap negation p) ∙ negation-negation x) in
        let t : level_of levels y ≡ level_of levels l = ap (level_of levels) q in
        omega arith

    go : IsIn (negation x) (i ∷ j ∷ []) → IsIn y (i ∷ j ∷ []) → level_of levels y ≤ level_of levels x
    go (inl p) (inl q) = absurd (w.two (p ∙ sym q))
    go (inl p) (inr (inl q)) = step a b (p ∙ sym e) (q ∙ sym f) g
    go (inr (inl p)) (inl q) = step b a (p ∙ sym f) (q ∙ sym e) h
    go (inr (inl p)) (inr (inl q)) = absurd (w.two (p ∙ sym q))
    go (inl p) (inr (inr z)) = absurd z
    go (inr (inl p)) (inr (inr z)) = absurd z
    go (inr (inr z)) m = absurd z

pub all-fall : (levels : List ℕ) (N : Slots) → ((c : ℕ) (D : Clause) → slot N c ≡ Some D → NeverRise levels (D ∷ [])) → NeverRise levels (live N)
all-fall levels N h x y b = let d = live-number N b.clause b.there in h d.0 b.clause d.1 x y (binary-own (live N) x y b)

pub none-rise : (X : Matrix) → NeverRise [] X
none-rise X x y b = omega arith

-- The clause of one id.
pub record FallsAt (levels : List ℕ) (N : Slots) (c : ℕ) : Type 0 where
  pub falls : (D : Clause) → slot N c ≡ Some D → NeverRise levels (D ∷ [])

pub falls-one : (levels : List ℕ) (N : Slots) (c : ℕ) (C : Clause) → slot N c ≡ Some C → NeverRise levels (C ∷ []) → FallsAt levels N c
falls-one levels N c C e f = record { falls = λ D s. subst (λ (E : Clause). NeverRise levels (E ∷ [])) (same_Some C D (sym e ∙ s)) f }
