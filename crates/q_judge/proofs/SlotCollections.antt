-- The clauses in slots as a collection.
use Rattle.std.proofs.Common.{◌≡◌, ℕ, zero, suc, ◌+◌, [], ◌∷◌, ◌++◌, Option, None, Some, slice_get, set, length, refl, ◌∙◌, ap, inl, inr, arith}
use Rattle.q_logic.specs.Prelude.{Clause, Matrix, IsIn, one_less, literals_in, copies, Slots}
use Rattle.q_logic.proofs.Common.{IsIn-Contains, Contains-IsIn, SameClauses, alike-sym, alike-trans, copies-append, alike-uncons, one_less-alike, same-sizes}
use Rattle.q_prop.specs.Slots.{filled, without, Holds, IsPut}
use Rattle.q_prop.proofs.SlotLemmas.{filled-in, filled-cases, without-le}

pub held-in : (s : Slots) (n : ℕ) (C : Clause) → Holds s n C → IsIn C (filled s)
held-in s n C h = Contains-IsIn C (filled s) (filled-in s n C h)

pub in-held : (s : Slots) (C : Clause) → IsIn C (filled s) → (n : ℕ) × Holds s n C
in-held s C m = filled-cases s C (IsIn-Contains C (filled s) m)

pub filled-append : (s t : Slots) → filled (s ++ t) ≡ filled s ++ filled t
filled-append [] t = refl
filled-append (None ∷ s) t = filled-append s t
filled-append (Some C ∷ s) t = ap (λ (X : Matrix). C ∷ X) (filled-append s t)

-- a slot that is emptied gives one copy
pub emptied-same : (s : Slots) (n : ℕ) (C : Clause) → Holds s n C → SameClauses (filled s) (C ∷ filled (set s n None))
emptied-same [] n C h D = cc
emptied-same (None ∷ s) zero C h D = cc
emptied-same (None ∷ s) (suc n) C h D = emptied-same s n C h D
emptied-same (Some E ∷ s) zero C h D = let e : E ≡ C = cc in ap (λ (F : Clause). copies D (F ∷ filled s)) e
emptied-same (Some E ∷ s) (suc n) C h D = let i : copies D (filled s) ≡ copies D (C ∷ filled (set s n None)) = emptied-same s n C h D in grind arith

-- a slot that is filled takes one copy
pub filled-same : (s : Slots) (n : ℕ) (C : Clause) → slice_get s n ≡ Some None → SameClauses (filled (set s n (Some C))) (C ∷ filled s)
filled-same [] n C h D = cc
filled-same (None ∷ s) zero C h D = refl
filled-same (None ∷ s) (suc n) C h D = filled-same s n C h D
filled-same (Some E ∷ s) zero C h D = cc
filled-same (Some E ∷ s) (suc n) C h D = let i : copies D (filled (set s n (Some C))) ≡ copies D (C ∷ filled s) = filled-same s n C h D in grind arith

pub put-same : (s t : Slots) (n : ℕ) (C : Clause) → IsPut s n C t → SameClauses (filled t) (C ∷ filled s)
put-same s t n C (inl h) D = let e : copies D (filled t) ≡ copies D (filled s) + copies D (C ∷ []) = ap (λ (u : Slots). copies D (filled u)) h.1 ∙ ap (copies D) (filled-append s (Some C ∷ [])) ∙ copies-append D (filled s) (C ∷ []) in grind arith
put-same s t n C (inr h) D = ap (λ (u : Slots). copies D (filled u)) h.1 ∙ filled-same s n C h.0 D

-- what is left without a slot is one copy less
pub left-same : (s : Slots) (n : ℕ) (C : Clause) → Holds s n C → SameClauses (filled (without s (Some n))) (one_less C (filled s))
left-same s n C h = alike-uncons C (filled (set s n None)) (one_less C (filled s))
    (alike-trans (C ∷ filled (set s n None)) (filled s) (C ∷ one_less C (filled s)) (alike-sym (filled s) (C ∷ filled (set s n None)) (emptied-same s n C h)) (one_less-alike C (filled s) (held-in s n C h)))

pub left-sizes : (s : Slots) (n : ℕ) (C : Clause) → Holds s n C → (length (filled s) ≡ length (filled (set s n None)) + 1) × (literals_in (filled s) ≡ length C + literals_in (filled (set s n None)))
left-sizes s n C h = let z : (length (filled s) ≡ length (C ∷ filled (set s n None))) × (literals_in (filled s) ≡ literals_in (C ∷ filled (set s n None))) = same-sizes (filled s) (C ∷ filled (set s n None)) (emptied-same s n C h) in (omega (arith, z.0), omega (arith, z.1))

pub put-sizes : (s t : Slots) (n : ℕ) (C : Clause) → IsPut s n C t → (length (filled t) ≡ length (filled s) + 1) × (literals_in (filled t) ≡ length C + literals_in (filled s))
put-sizes s t n C h = let z : (length (filled t) ≡ length (C ∷ filled s)) × (literals_in (filled t) ≡ literals_in (C ∷ filled s)) = same-sizes (filled t) (C ∷ filled s) (put-same s t n C h) in (omega (arith, z.0), omega (arith, z.1))

pub left-in : (s : Slots) (k : Option ℕ) (D : Clause) → IsIn D (filled (without s k)) → IsIn D (filled s)
left-in s k D m = let r = in-held (without s k) D m in held-in s r.0 D (without-le s k r.0 D r.1)
