-- Refutations with hints are refutations, and each refutation has hints; they have a number, or are refused at one place.
use Rattle.std.proofs.Common.{◌≡◌, ℕ, suc, false, List, [], ◌∷◌, inl, inr, arith, refl, sym, ap, ◌∙◌, Option, Some, None}
use Rattle.q_logic.specs.declared.limits.Limits.{Limits}
use Rattle.q_logic.specs.declared.proof_part.ProofKind.TheVariants.{Nothing}
use Rattle.q_logic.specs.Prelude.{PrenexFormula, IsFormula, Holds, NumberedFormula, ProofPart, Hinted, HintedValid, AreAlike, hinted_after, begun, plain, strip, ProofStep, add, delete, drop_literal, fresh, remove_variable, after}
use Rattle.q_logic.specs.Hinted.{IsHintedWrong}
use Rattle.q_logic.proofs.JustifiedRuns.{alike-refl}
use Rattle.q_logic.proofs.NumberedClauses.{live-slot, live-numbered}
use Rattle.q_logic.proofs.AlikeFormulas.{alike_after, alike_through, alike_swapped}
use Rattle.q_logic.proofs.HintChains.{live-number}
use Rattle.q_logic.proofs.HintedRuns.{hinted-valid, hinted-after, left-alike}
use Rattle.q_logic.proofs.ProofParts.{valid-hinted}
use Rattle.q_logic.proofs.HintedCauses.{HintedValid-not_wrong, not_shown-cause}
use Rattle.q_logic.proofs.Validity.{least-one, no_least-none}
use Rattle.q_refutation.specs.Refutations.{MayBeMade, IsLost, Refutes}
use Rattle.q_shown.specs.HintedRefutations.{HintedMayBeMade, HintedRefutes, HintedRefutedIn, IsHintedBad, HintedBadCause, HintedRefusedAt}
use Rattle.q_refutation.proofs.Refuting.{refutes-false}
use Rattle.q_refutation.proofs.Refusing.{lost-or}
use Rattle.q_refutation.proofs.FirstEmpty.{alike_lost, alike_may}

-- One step: without its proof part it may be made too, and leaves the same, up to the order of clauses.
pub hinted-may : (m : Limits) (N : NumberedFormula) (s : ProofStep) (t : ProofPart) → HintedMayBeMade m N s t → MayBeMade false m (plain N) s
hinted-may m N (add p C) t h = hinted-valid m N (add p C) t h
hinted-may m N (delete p C) t h = (h.0, live-slot N.slots t.number C h.1)
hinted-may m N (drop_literal l C) t h = hinted-valid m N (drop_literal l C) t h
hinted-may m N (fresh v w) t h = hinted-valid m N (fresh v w) t h
hinted-may m N (remove_variable v) t h = hinted-valid m N (remove_variable v) t h

pub hinted-leaves : (m : Limits) (N : NumberedFormula) (s : ProofStep) (t : ProofPart) → HintedMayBeMade m N s t →
    AreAlike (after (plain N) s) (plain (hinted_after N s t))
hinted-leaves m N (add p C) t h = hinted-after m N (add p C) t h
hinted-leaves m N (delete p C) t h = record { prefix = refl; clauses = left-alike N.slots t.number C h.1 }
hinted-leaves m N (drop_literal l C) t h = hinted-after m N (drop_literal l C) t h
hinted-leaves m N (fresh v w) t h = hinted-after m N (fresh v w) t h
hinted-leaves m N (remove_variable v) t h = hinted-after m N (remove_variable v) t h

behind-alike : (m : Limits) (N : NumberedFormula) (A : PrenexFormula) (s : ProofStep) (t : ProofPart) → AreAlike (plain N) A →
    HintedMayBeMade m N s t → AreAlike (plain (hinted_after N s t)) (after A s)
behind-alike m N A s t a h =
    alike_through (plain (hinted_after N s t)) (after (plain N) s) (after A s)
    (alike_swapped (after (plain N) s) (plain (hinted_after N s t)) (hinted-leaves m N s t h))
    (alike_after (plain N) A s a)

pub begun-alike : (F : PrenexFormula) → AreAlike (plain (begun F)) F
begun-alike F = record { prefix = refl; clauses = rw live-numbered (alike-refl F.matrix) }

-- All steps.
stripped-refutes : (m : Limits) (N : NumberedFormula) (A : PrenexFormula) (hs : List Hinted) → AreAlike (plain N) A →
    HintedRefutes m N hs → Refutes false m A (strip hs)
stripped-refutes m N A [] a l = alike_lost (plain N) A a l
stripped-refutes m N A (h ∷ hs) a (inl l) = inl (alike_lost (plain N) A a l)
stripped-refutes m N A (h ∷ hs) a (inr (v, r)) =
    inr (
      alike_may m (plain N) A h.step a (hinted-may m N h.step h.proof v),
      stripped-refutes m (hinted_after N h.step h.proof) (after A h.step) hs (behind-alike m N A h.step h.proof a v) r,
    )

pub hinted-refutes : (m : Limits) (F : PrenexFormula) (hs : List Hinted) → HintedRefutes m (begun F) hs → Refutes false m F (strip hs)
hinted-refutes m F hs r = stripped-refutes m (begun F) F hs (begun-alike F) r

pub hinted-false : (m : Limits) (F : PrenexFormula) (hs : List Hinted) → IsFormula F → HintedRefutes m (begun F) hs → Holds F → ⊥
hinted-false m F hs f r t = refutes-false false m F (strip hs) f (hinted-refutes m F hs r) t

-- Each step that may be made has a proof part.
may-hinted : (m : Limits) (N : NumberedFormula) (s : ProofStep) → MayBeMade false m (plain N) s → (t : ProofPart) × HintedMayBeMade m N s t
may-hinted m N (add p C) v = valid-hinted m N (add p C) v
may-hinted m N (delete p C) v =
    let h = live-number N.slots C v.1 in (record { kind = Nothing; number = h.0; groups = [] }, (v.0, h.1))
may-hinted m N (drop_literal l C) v = valid-hinted m N (drop_literal l C) v
may-hinted m N (fresh v w) h = valid-hinted m N (fresh v w) h
may-hinted m N (remove_variable v) h = valid-hinted m N (remove_variable v) h

abbrev HasHints : Limits → NumberedFormula → List ProofStep → Type 0
HasHints m N ss = (hs : List Hinted) × (strip hs ≡ ss) × HintedRefutes m N hs

abbrev without-hints : List ProofStep → List Hinted
without-hints [] = []
without-hints (s ∷ ss) = record { step = s; proof = record { kind = Nothing; number = 0; groups = [] } } ∷ without-hints ss

strip-without : (ss : List ProofStep) → strip (without-hints ss) ≡ ss
strip-without [] = refl
strip-without (s ∷ ss) = ap (λ (us : List ProofStep). s ∷ us) (strip-without ss)

lost-hinted : (m : Limits) (N : NumberedFormula) (hs : List Hinted) → IsLost (plain N) → HintedRefutes m N hs
lost-hinted m N [] l = l
lost-hinted m N (h ∷ hs) l = inl l

hinted-of : (m : Limits) (N : NumberedFormula) (A : PrenexFormula) (ss : List ProofStep) → AreAlike (plain N) A → Refutes false m A ss → HasHints m N ss
hinted-of m N A [] a l = ([], refl, alike_lost A (plain N) (alike_swapped (plain N) A a) l)
hinted-of m N A (s ∷ ss) a (inl l) =
    (without-hints (s ∷ ss), strip-without (s ∷ ss), inl (alike_lost A (plain N) (alike_swapped (plain N) A a) l))
hinted-of m N A (s ∷ ss) a (inr (v, r)) =
    let h = may-hinted m N s (alike_may m A (plain N) s (alike_swapped (plain N) A a) v) in
    let i = hinted-of m (hinted_after N s h.0) (after A s) ss (behind-alike m N A s h.0 a h.1) r in
    (record { step = s; proof = h.0 } ∷ i.0, ap (λ (us : List ProofStep). s ∷ us) i.1, inr (h.1, i.2))

pub refutes-hinted : (m : Limits) (F : PrenexFormula) (ss : List ProofStep) → Refutes false m F ss → HasHints m (begun F) ss
refutes-hinted m F ss r = hinted-of m (begun F) F ss (begun-alike F) r

-- Causes.
pub hinted_made-not_bad : (m : Limits) (N : NumberedFormula) (s : ProofStep) (t : ProofPart) (n : ℕ) → HintedMayBeMade m N s t →
    IsHintedBad m N s t n → ⊥
hinted_made-not_bad m N (add p C) t n v w = HintedValid-not_wrong m N (add p C) t n v w
hinted_made-not_bad m N (delete p C) t n v (inl w) = w.1 v.0
hinted_made-not_bad m N (delete p C) t n v (inr w) = w.1 v.1
hinted_made-not_bad m N (drop_literal l C) t n v w = HintedValid-not_wrong m N (drop_literal l C) t n v w
hinted_made-not_bad m N (fresh v x) t n h w = HintedValid-not_wrong m N (fresh v x) t n h w
hinted_made-not_bad m N (remove_variable v) t n h w = HintedValid-not_wrong m N (remove_variable v) t n h w

pub hinted_made-no_cause : (m : Limits) (N : NumberedFormula) (s : ProofStep) (t : ProofPart) (n : ℕ) → HintedMayBeMade m N s t →
    HintedBadCause m N s t n → ⊥
hinted_made-no_cause m N s t n v c = hinted_made-not_bad m N s t n v c.applies

pub hinted_cause-one : (m : Limits) (N : NumberedFormula) (s : ProofStep) (t : ProofPart) (i j : ℕ) → HintedBadCause m N s t i →
    HintedBadCause m N s t j → i ≡ j
hinted_cause-one m N s t i j c d = least-one (IsHintedBad m N s t) i j c.applies c.least d.applies d.least

shown-cause : (m : Limits) (N : NumberedFormula) (s : ProofStep) (t : ProofPart) → ((n : ℕ) → IsHintedWrong m N s t n → IsHintedBad m N s t n) →
    ((n : ℕ) → IsHintedBad m N s t n → IsHintedWrong m N s t n) → ¬ HintedValid m N s t → ¬ ((n : ℕ) → ¬ HintedBadCause m N s t n)
shown-cause m N s t to back v none =
    not_shown-cause m N s t v (λ n c. none n (record { applies = to n c.applies; least = λ k h w. c.least k h (back k w) }))

pub not_hinted-cause : (m : Limits) (N : NumberedFormula) (s : ProofStep) (t : ProofPart) → ¬ HintedMayBeMade m N s t →
    ¬ ((n : ℕ) → ¬ HintedBadCause m N s t n)
not_hinted-cause m N (add p C) t v none = shown-cause m N (add p C) t (λ n w. w) (λ n w. w) v none
not_hinted-cause m N (delete p C) t v none =
    let r : (n : ℕ) → ¬ IsHintedBad m N (delete p C) t n =
    λ n. no_least-none (IsHintedBad m N (delete p C) t) (λ i w l. none i (record { applies = w; least = l })) (suc n) n (omega arith) in
    r 2 (inl (refl, λ a. r 3 (inr (refl, λ b. v (a, b)))))
not_hinted-cause m N (drop_literal l C) t v none = shown-cause m N (drop_literal l C) t (λ n w. w) (λ n w. w) v none
not_hinted-cause m N (fresh v x) t h none = shown-cause m N (fresh v x) t (λ n w. w) (λ n w. w) h none
not_hinted-cause m N (remove_variable v) t h none = shown-cause m N (remove_variable v) t (λ n w. w) (λ n w. w) h none

-- Numbers.
pub hinted-number : (m : Limits) (N : NumberedFormula) (hs : List Hinted) → HintedRefutes m N hs → (n : ℕ) × HintedRefutedIn m N hs n
hinted-number m N [] l = (0, (l, refl))
hinted-number m N (h ∷ hs) (inl l) = (0, inl (l, refl))
hinted-number m N (h ∷ hs) (inr (v, r)) =
    let i = hinted-number m (hinted_after N h.step h.proof) hs r in
    elim (lost-or (plain N)) [
      | inl l ↦ (0, inl (l, refl))
      | inr n ↦ (suc i.0, inr (n, v, (i.0, i.1, refl)))
    ]

pub number-hinted : (m : Limits) (N : NumberedFormula) (hs : List Hinted) (n : ℕ) → HintedRefutedIn m N hs n → HintedRefutes m N hs
number-hinted m N [] n r = r.0
number-hinted m N (h ∷ hs) n (inl r) = inl r.0
number-hinted m N (h ∷ hs) n (inr (a, v, (k, r, e))) = inr (v, number-hinted m (hinted_after N h.step h.proof) hs k r)

pub hinted_number-one : (m : Limits) (N : NumberedFormula) (hs : List Hinted) (i j : ℕ) → HintedRefutedIn m N hs i → HintedRefutedIn m N hs j → i ≡ j
hinted_number-one m N [] i j a b = a.1 ∙ sym b.1
hinted_number-one m N (h ∷ hs) i j (inl a) (inl b) = a.1 ∙ sym b.1
hinted_number-one m N (h ∷ hs) i j (inl a) (inr b) = absurd (b.0 a.0)
hinted_number-one m N (h ∷ hs) i j (inr a) (inl b) = absurd (a.0 b.0)
hinted_number-one m N (h ∷ hs) i j (inr (x, v, (k, r, e))) (inr (y, w, (l, t, g))) =
    e ∙ ap suc (hinted_number-one m (hinted_after N h.step h.proof) hs k l r t) ∙ sym g

pub hinted_not-both : (m : Limits) (N : NumberedFormula) (hs : List Hinted) (n at : ℕ) (cause : Option ℕ) → HintedRefutedIn m N hs n →
    HintedRefusedAt m N hs at cause → ⊥
hinted_not-both m N [] n at cause r x = x.0 r.0
hinted_not-both m N (h ∷ hs) n at cause (inl r) x = x.0 r.0
hinted_not-both m N (h ∷ hs) n at cause (inr (a, v, (k, r, e))) (b, inl (z, (i, c, g))) = hinted_made-no_cause m N h.step h.proof i v c
hinted_not-both m N (h ∷ hs) n at cause (inr (a, v, (k, r, e))) (b, inr (w, (l, t, g))) =
    hinted_not-both m (hinted_after N h.step h.proof) hs k l cause r t

pub hinted_either : (m : Limits) (N : NumberedFormula) (hs : List Hinted) → ¬ HintedRefutes m N hs →
    ¬ ((at : ℕ) → (cause : Option ℕ) → ¬ HintedRefusedAt m N hs at cause)
hinted_either m N [] n k = k 0 None (n, refl, refl)
hinted_either m N (h ∷ hs) n k =
    let a : ¬ IsLost (plain N) = λ l. n (inl l) in
    not_hinted-cause m N h.step h.proof
    (λ v. hinted_either m (hinted_after N h.step h.proof) hs (λ r. n (inr (v, r))) (λ at cause x. k (suc at) cause (a, inr (v, (at, x, refl)))))
    (λ i c. k 0 (Some i) (a, inl (refl, (i, c, refl))))
