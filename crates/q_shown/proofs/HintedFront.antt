-- Steps with proof parts that are made without the empty clause, and what is behind them.
use Rattle.std.proofs.Common.{◌≡◌, ◌+◌, ℕ, List, [], ◌∷◌, ◌++◌, length, inl, inr, refl, sym, subst, arith, Option}
use Rattle.q_logic.specs.declared.limits.Limits.{Limits}
use Rattle.q_logic.specs.declared.steps.Kind.TheVariants.{Delete}
use Rattle.q_logic.specs.Prelude.{NumberedFormula, ProofPart, Hinted, HintedValid, HintedCause, hinted_after, plain, ProofStep, add, delete, drop_literal, fresh, remove_variable}
use Rattle.q_logic.specs.StepForms.{kind_of}
use Rattle.q_same_steps.specs.HintedMaking.{HintedApplies, HintedUnfit}
use Rattle.q_refutation.specs.Refutations.{IsLost}
use Rattle.q_shown.specs.HintedRefutations.{HintedMayBeMade, HintedRefutedIn, HintedBadCause, HintedRefusedAt, AreHintedMadeUnlost}

-- a deletion may be made where it can be, and any other step where its proof part shows it

pub hinted-may_pass : (m : Limits) (N : NumberedFormula) (s : ProofStep) (t : ProofPart) → kind_of s ≡ Delete → HintedApplies m N s t → HintedMayBeMade m N s t
hinted-may_pass m N (add p C) t k a = cc
hinted-may_pass m N (delete p C) t k a = a
hinted-may_pass m N (drop_literal l C) t k a = cc
hinted-may_pass m N (fresh v w) t k a = cc
hinted-may_pass m N (remove_variable v) t k a = cc

pub hinted-may_step : (m : Limits) (N : NumberedFormula) (s : ProofStep) (t : ProofPart) → (kind_of s ≡ Delete → ⊥) → HintedValid m N s t → HintedMayBeMade m N s t
hinted-may_step m N (add p C) t k v = v
hinted-may_step m N (delete p C) t k v = absurd (k refl)
hinted-may_step m N (drop_literal l C) t k v = v
hinted-may_step m N (fresh v w) t k h = h
hinted-may_step m N (remove_variable v) t k h = h

pub hinted-bad_pass : (m : Limits) (N : NumberedFormula) (s : ProofStep) (t : ProofPart) (n : ℕ) → kind_of s ≡ Delete → HintedUnfit m N s t n → HintedBadCause m N s t n
hinted-bad_pass m N (add p C) t n k u = cc
hinted-bad_pass m N (delete p C) t n k u = record { applies = u.applies; least = u.least }
hinted-bad_pass m N (drop_literal l C) t n k u = cc
hinted-bad_pass m N (fresh v w) t n k u = cc
hinted-bad_pass m N (remove_variable v) t n k u = cc

pub hinted-bad_step : (m : Limits) (N : NumberedFormula) (s : ProofStep) (t : ProofPart) (n : ℕ) → (kind_of s ≡ Delete → ⊥) → HintedCause m N s t n → HintedBadCause m N s t n
hinted-bad_step m N (add p C) t n k u = record { applies = u.applies; least = u.least }
hinted-bad_step m N (delete p C) t n k u = absurd (k refl)
hinted-bad_step m N (drop_literal l C) t n k u = record { applies = u.applies; least = u.least }
hinted-bad_step m N (fresh v w) t n k u = record { applies = u.applies; least = u.least }
hinted-bad_step m N (remove_variable v) t n k u = record { applies = u.applies; least = u.least }

-- one step more

pub hinted-more : (m : Limits) (N E : NumberedFormula) (hs : List Hinted) (h : Hinted) → AreHintedMadeUnlost m N hs E →
    (IsLost (plain E) → ⊥) → HintedMayBeMade m E h.step h.proof → AreHintedMadeUnlost m N (hs ++ h ∷ []) (hinted_after E h.step h.proof)
hinted-more m N E [] h e u v =
    subst (λ (G : NumberedFormula). AreHintedMadeUnlost m G (h ∷ []) (hinted_after E h.step h.proof)) (sym e) (u, v, refl)
hinted-more m N E (t ∷ hs) h (n, w, r) u v = (n, w, hinted-more m (hinted_after N t.step t.proof) E hs h r u v)

-- what is behind steps that are made

pub hinted-refuted_behind : (m : Limits) (N E : NumberedFormula) (hs gs : List Hinted) (k : ℕ) → AreHintedMadeUnlost m N hs E →
    HintedRefutedIn m E gs k → HintedRefutedIn m N (hs ++ gs) (length hs + k)
hinted-refuted_behind m N E [] gs k e r =
    let z : k ≡ 0 + k = omega arith in
    subst (λ (i : ℕ). HintedRefutedIn m N gs i) z (subst (λ (G : NumberedFormula). HintedRefutedIn m G gs k) (sym e) r)
hinted-refuted_behind m N E (t ∷ hs) gs k (n, h, q) r =
    inr (n, h, (length hs + k, hinted-refuted_behind m (hinted_after N t.step t.proof) E hs gs k q r, omega arith))

pub hinted-refused_behind : (m : Limits) (N E : NumberedFormula) (hs gs : List Hinted) (at : ℕ) (cause : Option ℕ) →
    AreHintedMadeUnlost m N hs E → HintedRefusedAt m E gs at cause → HintedRefusedAt m N (hs ++ gs) (length hs + at) cause
hinted-refused_behind m N E [] gs at cause e r =
    let z : at ≡ 0 + at = omega arith in
    subst (λ (i : ℕ). HintedRefusedAt m N gs i cause) z (subst (λ (G : NumberedFormula). HintedRefusedAt m G gs at cause) (sym e) r)
hinted-refused_behind m N E (t ∷ hs) gs at cause (n, h, q) r =
    (n, inr (h, (length hs + at, hinted-refused_behind m (hinted_after N t.step t.proof) E hs gs at cause q r, omega arith)))

-- the empty clause is there

pub hinted-refuted_now : (m : Limits) (N : NumberedFormula) (hs : List Hinted) → IsLost (plain N) → HintedRefutedIn m N hs 0
hinted-refuted_now m N [] h = (h, refl)
hinted-refuted_now m N (s ∷ hs) h = inl (h, refl)
