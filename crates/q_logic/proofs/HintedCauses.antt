-- The causes of steps that their proof parts do not show to be valid.
use Rattle.std.proofs.Common.{◌≡◌, ℕ, suc, Bool, true, false, inl, inr, refl, arith}
use Rattle.q_logic.specs.declared.limits.Limits.{Limits}
use Rattle.q_logic.specs.Prelude.{Literal, Clause, Prefix, Slots, live, is_bound, is_universal, ProofStep, add, delete, drop_literal, fresh, remove_variable}
use Rattle.q_logic.specs.Hinted.{NumberedFormula, ProofPart, beside, ShowsDrop, IsUndroppable, HintedValid, IsHintedWrong, HintedCause}
use Rattle.q_logic.proofs.Validity.{least-one, no_least-none}

shown-droppable : (P : Prefix) (N : Slots) (C : Clause) (l : Literal) (t : ProofPart) → ShowsDrop P N C l t →
    IsUndroppable P (live N) C l t → ⊥
shown-droppable P N C l t (inl h) (inl e) = let z : is_universal P l.var ≡ true = h.1.0 in cc
shown-droppable P N C l t (inl h) (inr w) = let a = h.0 in let b = w.0 in cc
shown-droppable P N C l t (inr h) (inl e) = let z : is_universal P l.var ≡ true = h.1.universal_literal in cc
shown-droppable P N C l t (inr h) (inr w) = w.1 h.1

-- Nothing is wrong with a valid step.
pub HintedValid-not_wrong : (m : Limits) (F : NumberedFormula) (s : ProofStep) (t : ProofPart) (n : ℕ) →
    HintedValid m F s t → IsHintedWrong m F s t n → ⊥
HintedValid-not_wrong m F (add p C) t n v (inl (e, w)) = w v.0
HintedValid-not_wrong m F (add p C) t n v (inr (inl (e, w))) = w v.2
HintedValid-not_wrong m F (add p C) t n v (inr (inr (e, w))) = w v.1
HintedValid-not_wrong m F (delete p C) t n v (inl (e, w)) = w v.0
HintedValid-not_wrong m F (delete p C) t n v (inr (inl (e, w))) = w v.1
HintedValid-not_wrong m F (delete p C) t n v (inr (inr (e, w))) = w v.2
HintedValid-not_wrong m F (drop_literal l C) t n v (inl (e, w)) = w v.0
HintedValid-not_wrong m F (drop_literal l C) t n v (inr (inl (e, w))) = w v.1
HintedValid-not_wrong m F (drop_literal l C) t n v (inr (inr (inl (e, w)))) =
    shown-droppable F.prefix (beside t.number F) C l t v.2 w
HintedValid-not_wrong m F (drop_literal l C) t n v (inr (inr (inr (e, w)))) = w v.2
HintedValid-not_wrong m F (fresh v x) t n h (inl (e, w)) = w h.0
HintedValid-not_wrong m F (fresh v x) t n h (inr (e, w)) = w h.1
HintedValid-not_wrong m F (remove_variable v) t n h (inl (e, w)) =
    let z : is_bound F.prefix v ≡ true = h.0 in cc
HintedValid-not_wrong m F (remove_variable v) t n h (inr (inl (e, w))) = w h.1
HintedValid-not_wrong m F (remove_variable v) t n h (inr (inr (e, w))) = w h.2

pub HintedValid-no_cause : (m : Limits) (F : NumberedFormula) (s : ProofStep) (t : ProofPart) (n : ℕ) →
    HintedValid m F s t → HintedCause m F s t n → ⊥
HintedValid-no_cause m F s t n v c = HintedValid-not_wrong m F s t n v c.applies

-- There is one cause at most.
pub HintedCause-one : (m : Limits) (F : NumberedFormula) (s : ProofStep) (t : ProofPart) (i j : ℕ) →
    HintedCause m F s t i → HintedCause m F s t j → i ≡ j
HintedCause-one m F s t i j c d = least-one (IsHintedWrong m F s t) i j c.applies c.least d.applies d.least

right-shown : (m : Limits) (F : NumberedFormula) (s : ProofStep) (t : ProofPart) →
    ((n : ℕ) → ¬ IsHintedWrong m F s t n) → ¬ (¬ HintedValid m F s t)
right-shown m F (add p C) t r n =
    r 2 (inl (refl, λ a. r 8 (inr (inl (refl, λ b. r 12 (inr (inr (refl, λ c. n (a, c, b)))))))))
right-shown m F (delete p C) t r n =
    r 2 (inl (refl, λ a. r 3 (inr (inl (refl, λ b. r 12 (inr (inr (refl, λ c. n (a, b, c)))))))))
right-shown m F (drop_literal l C) t r n =
    r 2 (inl (refl, λ a. r 3 (inr (inl (refl, λ b. r 12 (inr (inr (inr (refl, λ c. n (a, b, c))))))))))
right-shown m F (fresh v x) t r n = r 6 (inl (refl, λ a. r 12 (inr (refl, λ b. n (a, b)))))
right-shown m F (remove_variable v) t r n = go (is_bound F.prefix v) refl
  where
    go : (b : Bool) → is_bound F.prefix v ≡ b → ⊥
    go true e = r 7 (inr (inl (refl, λ a. r 12 (inr (inr (refl, λ b. n (e, a, b)))))))
    go false e = r 2 (inl (refl, e))

-- A step that is not shown to be valid has a cause.
pub not_shown-cause : (m : Limits) (F : NumberedFormula) (s : ProofStep) (t : ProofPart) → ¬ HintedValid m F s t →
    ¬ ((n : ℕ) → ¬ HintedCause m F s t n)
not_shown-cause m F s t v none =
    right-shown m F s t
    (λ n. no_least-none (IsHintedWrong m F s t) (λ i w l. none i (record { applies = w; least = l })) (suc n) n (omega arith)) v
