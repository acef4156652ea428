-- Steps with proof parts that are made without being judged, on numbered clauses: what that asks for, and what is said where they can't be.
use Rattle.std.specs.Prelude.{◌≡◌, ◌⊎◌, ◌<◌, ℕ, true, false, List, [], ◌∷◌, Some}
use Rattle.q_logic.specs.declared.limits.Limits.{Limits}
use Rattle.q_logic.specs.declared.proof_part.ProofKind.TheVariants.{Nothing}
use Rattle.q_logic.specs.Prefixes.{is_bound}
use Rattle.q_logic.specs.Numbered.{slot, live}
use Rattle.q_logic.specs.Steps.{ProofStep, add, delete, drop_literal, fresh, remove_variable, Within, KeepsLimits, IsFresh, IsAbsent}
use Rattle.q_logic.specs.Hinted.{NumberedFormula, ProofPart, Hinted, hinted_after}

-- a step can be made on numbered clauses, whatever its proof part may show
abbrev pub HintedApplies : Limits → NumberedFormula → ProofStep → ProofPart → Type 0
HintedApplies m F (add p C) t = Within F.prefix C × KeepsLimits m (C ∷ live F.slots)
HintedApplies m F (delete p C) t = Within F.prefix C × (slot F.slots t.number ≡ Some C)
HintedApplies m F (drop_literal l C) t = Within F.prefix C × (slot F.slots t.number ≡ Some C)
HintedApplies m F (fresh v w) t = IsFresh m F.prefix v w × (t.kind ≡ Nothing)
HintedApplies m F (remove_variable v) t = (is_bound F.prefix v ≡ true) × IsAbsent (live F.slots) v × (t.kind ≡ Nothing)

-- what is wrong with a step that can't be made, by number: 5, and 12 where there are hints to look at, are causes of those alone who judge
abbrev pub IsHintedUnfit : Limits → NumberedFormula → ProofStep → ProofPart → ℕ → Type 0
IsHintedUnfit m F (add p C) t n = ((n ≡ 2) × ¬ Within F.prefix C) ⊎ ((n ≡ 8) × ¬ KeepsLimits m (C ∷ live F.slots))
IsHintedUnfit m F (delete p C) t n = ((n ≡ 2) × ¬ Within F.prefix C) ⊎ ((n ≡ 3) × ¬ (slot F.slots t.number ≡ Some C))
IsHintedUnfit m F (drop_literal l C) t n = ((n ≡ 2) × ¬ Within F.prefix C) ⊎ ((n ≡ 3) × ¬ (slot F.slots t.number ≡ Some C))
IsHintedUnfit m F (fresh v w) t n = ((n ≡ 6) × ¬ IsFresh m F.prefix v w) ⊎ ((n ≡ 12) × ¬ (t.kind ≡ Nothing))
IsHintedUnfit m F (remove_variable v) t n =
    ((n ≡ 2) × (is_bound F.prefix v ≡ false)) ⊎ ((n ≡ 7) × ¬ IsAbsent (live F.slots) v) ⊎ ((n ≡ 12) × ¬ (t.kind ≡ Nothing))

-- the least number that applies
pub record HintedUnfit (m : Limits) (F : NumberedFormula) (s : ProofStep) (t : ProofPart) (n : ℕ) : Type 0 where
  pub applies : IsHintedUnfit m F s t n
  pub least : (k : ℕ) → k < n → ¬ IsHintedUnfit m F s t k

-- the formula behind some steps
abbrev pub hinted_made : NumberedFormula → List Hinted → NumberedFormula
hinted_made F [] = F
hinted_made F (h ∷ hs) = hinted_made (hinted_after F h.step h.proof) hs
