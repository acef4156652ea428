-- Steps with proof parts of which a share is judged: how they grow, and the share that is the whole.
use Rattle.std.proofs.Common.{◌≡◌, ◌+◌, inl, inr, subst, arith, refl, ℕ, suc, Bool, true, false, List, [], ◌∷◌, ◌++◌, length}
use Rattle.q_logic.specs.declared.limits.Limits.{Limits}
use Rattle.q_logic.specs.Prelude.{Hinted, HintedCause, HintedSteps, HintedValid, NumberedFormula, ProofPart, hinted_after, begun, standard, PrenexFormula, HintedRun}
use Rattle.q_logic.specs.Steps.{ProofStep, add, delete, drop_literal, fresh, remove_variable}
use Rattle.q_logic.proofs.HintedCauses.{HintedValid-no_cause}
use Rattle.q_same_steps.specs.HintedMaking.{HintedApplies, IsHintedUnfit, HintedUnfit, hinted_made}
use Rattle.q_shares.specs.Shares.{Share, judged}
use Rattle.q_shares.specs.HintedShares.{AreHintedMade, HintedShareRun}
use Rattle.q_command.specs.Parts.{IsWhole}

-- one step more
pub hinted-made-more : (F : NumberedFormula) (hs : List Hinted) (h : Hinted) → hinted_made F (hs ++ h ∷ []) ≡ hinted_after (hinted_made F hs) h.step h.proof
hinted-made-more F [] h = refl
hinted-made-more F (x ∷ hs) h = hinted-made-more (hinted_after F x.step x.proof) hs h

-- whether a step is right, or what is said of it
abbrev pub Fits : Bool → Limits → NumberedFormula → ProofStep → ProofPart → Type 0
Fits b m F s t = judged b (HintedValid m F s t) (HintedApplies m F s t)

abbrev pub Fails : Bool → Limits → NumberedFormula → ProofStep → ProofPart → ℕ → Type 0
Fails b m F s t n = judged b (HintedCause m F s t n) (HintedUnfit m F s t n)

pub are-hinted-more : (j : Share) (m : Limits) (k : ℕ) (F : NumberedFormula) (hs : List Hinted) (h : Hinted) → AreHintedMade j m k F hs → Fits (j (k + length hs)) m (hinted_made F hs) h.step h.proof → AreHintedMade j m k F (hs ++ h ∷ [])
are-hinted-more j m k F [] h a v =
    let z : k + 0 ≡ k = omega arith in
    (subst (λ (n : ℕ). Fits (j n) m F h.step h.proof) z v, tt)
are-hinted-more j m k F (x ∷ hs) h a v =
    let z : k + suc (length hs) ≡ (k + 1) + length hs = omega arith in
    let E : NumberedFormula = hinted_made (hinted_after F x.step x.proof) hs in
    (a.0, are-hinted-more j m (k + 1) (hinted_after F x.step x.proof) hs h a.1 (subst (λ (n : ℕ). Fits (j n) m E h.step h.proof) z v))

-- who judges all steps
pub whole-hinted : (j : Share) (m : Limits) (k : ℕ) (F : NumberedFormula) (hs : List Hinted) → IsWhole j → AreHintedMade j m k F hs → HintedSteps m F hs (hinted_made F hs)
whole-hinted j m k F [] w a = refl
whole-hinted j m k F (h ∷ hs) w a =
    (subst (λ (b : Bool). Fits b m F h.step h.proof) (w k) a.0, whole-hinted j m (k + 1) (hinted_after F h.step h.proof) hs w a.1)

pub whole-hinted-run : (j : Share) (F G : PrenexFormula) (hs : List Hinted) → IsWhole j → HintedShareRun j F hs G → HintedRun F hs G
whole-hinted-run j F G hs w r = record { last = hinted_made (begun F) hs; steps = whole-hinted j standard 0 (begun F) hs w r.steps; same = r.same }

-- a step that can be made has no cause
fit-no_unfit : (m : Limits) (F : NumberedFormula) (s : ProofStep) (t : ProofPart) (n : ℕ) → HintedApplies m F s t → IsHintedUnfit m F s t n → ⊥
fit-no_unfit m F (add p C) t n h (inl w) = w.1 h.0
fit-no_unfit m F (add p C) t n h (inr w) = w.1 h.1
fit-no_unfit m F (delete p C) t n h (inl w) = w.1 h.0
fit-no_unfit m F (delete p C) t n h (inr w) = w.1 h.1
fit-no_unfit m F (drop_literal l C) t n h (inl w) = w.1 h.0
fit-no_unfit m F (drop_literal l C) t n h (inr w) = w.1 h.1
fit-no_unfit m F (fresh v x) t n h (inl w) = w.1 h.0
fit-no_unfit m F (fresh v x) t n h (inr w) = w.1 h.1
fit-no_unfit m F (remove_variable v) t n h (inl w) = let e = h.0 in let f = w.1 in cc
fit-no_unfit m F (remove_variable v) t n h (inr (inl w)) = w.1 h.1
fit-no_unfit m F (remove_variable v) t n h (inr (inr w)) = w.1 h.2

pub hinted-right-or-wrong : (b : Bool) (m : Limits) (F : NumberedFormula) (s : ProofStep) (t : ProofPart) (n : ℕ) → Fits b m F s t → Fails b m F s t n → ⊥
hinted-right-or-wrong true m F s t n v w = HintedValid-no_cause m F s t n v w
hinted-right-or-wrong false m F s t n v w = fit-no_unfit m F s t n v w.applies
