-- Refutations with hints: steps with proof parts that lead to the empty clause. Each addition and each drop is shown by its proof part. A
-- deletion needs no reason: its proof part names its clause, and nothing more of it is looked at.
use Rattle.std.specs.Prelude.{◌≡◌, ◌⊎◌, ◌<◌, ℕ, suc, List, [], ◌∷◌, Option, Some, None}
use Rattle.q_logic.specs.declared.limits.Limits.{Limits}
use Rattle.q_logic.specs.Prelude.{PrenexFormula, NumberedFormula, ProofPart, Hinted, HintedValid, hinted_after, begun, plain, standard, ProofStep, add, delete, drop_literal, fresh, remove_variable}
use Rattle.q_logic.specs.Hinted.{IsHintedWrong}
use Rattle.q_same_steps.specs.HintedMaking.{HintedApplies, IsHintedUnfit}
use Rattle.q_refutation.specs.Refutations.{IsLost}

-- a step that is valid as its proof part shows, or a deletion of the clause that it names, for whatever reason
abbrev pub HintedMayBeMade : Limits → NumberedFormula → ProofStep → ProofPart → Type 0
HintedMayBeMade m N (add p C) t = HintedValid m N (add p C) t
HintedMayBeMade m N (delete p C) t = HintedApplies m N (delete p C) t
HintedMayBeMade m N (drop_literal l C) t = HintedValid m N (drop_literal l C) t
HintedMayBeMade m N (fresh v w) t = HintedValid m N (fresh v w) t
HintedMayBeMade m N (remove_variable v) t = HintedValid m N (remove_variable v) t

-- the empty clause comes, and the steps up to there may be made; what is behind is not looked at
abbrev pub HintedRefutes : Limits → NumberedFormula → List Hinted → Type 0
HintedRefutes m N [] = IsLost (plain N)
HintedRefutes m N (h ∷ hs) =
    IsLost (plain N) ⊎ (HintedMayBeMade m N h.step h.proof × HintedRefutes m (hinted_after N h.step h.proof) hs)

-- within the limits of the program, from a formula whose clauses are numbered from 1 on
abbrev pub HintedRefutation : PrenexFormula → List Hinted → Type 0
HintedRefutation F hs = HintedRefutes standard (begun F) hs

-- n is the number of steps until the empty clause is there
abbrev pub HintedRefutedIn : Limits → NumberedFormula → List Hinted → ℕ → Type 0
HintedRefutedIn m N [] n = IsLost (plain N) × (n ≡ 0)
HintedRefutedIn m N (h ∷ hs) n =
    (IsLost (plain N) × (n ≡ 0)) ⊎
    (¬ IsLost (plain N) × HintedMayBeMade m N h.step h.proof ×
    ((k : ℕ) × HintedRefutedIn m (hinted_after N h.step h.proof) hs k × (n ≡ suc k)))

-- what is wrong with a step and its proof part, by number, where a deletion needs no reason
abbrev pub IsHintedBad : Limits → NumberedFormula → ProofStep → ProofPart → ℕ → Type 0
IsHintedBad m N (add p C) t n = IsHintedWrong m N (add p C) t n
IsHintedBad m N (delete p C) t n = IsHintedUnfit m N (delete p C) t n
IsHintedBad m N (drop_literal l C) t n = IsHintedWrong m N (drop_literal l C) t n
IsHintedBad m N (fresh v w) t n = IsHintedWrong m N (fresh v w) t n
IsHintedBad m N (remove_variable v) t n = IsHintedWrong m N (remove_variable v) t n

-- the least number that applies
pub record HintedBadCause (m : Limits) (N : NumberedFormula) (s : ProofStep) (t : ProofPart) (n : ℕ) : Type 0 where
  pub applies : IsHintedBad m N s t n
  pub least : (k : ℕ) → k < n → ¬ IsHintedBad m N s t k

-- before the empty clause is there, so many steps are made, and the next one has this cause; or there is none, and no cause
abbrev pub HintedRefusedAt : Limits → NumberedFormula → List Hinted → ℕ → Option ℕ → Type 0
HintedRefusedAt m N [] at cause = ¬ IsLost (plain N) × (at ≡ 0) × (cause ≡ None)
HintedRefusedAt m N (h ∷ hs) at cause =
    ¬ IsLost (plain N) × (((at ≡ 0) × ((n : ℕ) × HintedBadCause m N h.step h.proof n × (cause ≡ Some n))) ⊎
    (HintedMayBeMade m N h.step h.proof ×
    ((k : ℕ) × HintedRefusedAt m (hinted_after N h.step h.proof) hs k cause × (at ≡ suc k))))

-- the steps are made one after the other, the empty clause is there before none of them, and E is the last formula
abbrev pub AreHintedMadeUnlost : Limits → NumberedFormula → List Hinted → NumberedFormula → Type 0
AreHintedMadeUnlost m N [] E = N ≡ E
AreHintedMadeUnlost m N (h ∷ hs) E =
    ¬ IsLost (plain N) × HintedMayBeMade m N h.step h.proof × AreHintedMadeUnlost m (hinted_after N h.step h.proof) hs E
