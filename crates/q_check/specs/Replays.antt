-- Steps that are made without being judged: what a checker answers.
use Rattle.std.specs.Prelude.{◌≡◌, [], Result, Ok, Err}
use Rattle.q_logic.specs.declared.limits.Limits.{Limits}
use Rattle.q_logic.specs.Prelude.{PrenexFormula, ProofStep, NumberedFormula, ProofPart, hinted_after, plain}
use Rattle.q_judge.specs.declared.error.CheckError.{CheckError}
use Rattle.q_judge.specs.declared.error.CheckError.TheVariants.{Refused, NoMemory}
use Rattle.q_same_steps.specs.Making.{Unfit}
use Rattle.q_same_steps.specs.HintedMaking.{HintedApplies, HintedUnfit}
use Rattle.q_check.specs.Annotations.{implied_part}

-- memory may be missing at any time; a refusal carries the least cause
abbrev pub IsUnfitFor : Limits → PrenexFormula → ProofStep → CheckError → Type 0
IsUnfitFor m F s (Refused n) = Unfit m F s n
IsUnfitFor m F s NoMemory = Unit {0}

-- the same of a step with its proof part
abbrev pub IsHintUnfitFor : Limits → NumberedFormula → ProofStep → ProofPart → CheckError → Type 0
IsHintUnfitFor m F s t (Refused n) = HintedUnfit m F s t n
IsHintUnfitFor m F s t NoMemory = Unit {0}

-- a step was to be made on F, and G is there now
abbrev pub IsHintMade : Limits → NumberedFormula → ProofStep → ProofPart → NumberedFormula → Result Unit CheckError → Type 0
IsHintMade m F s t G (Ok u) = HintedApplies m F s t × (G ≡ hinted_after F s t)
IsHintMade m F s t G (Err NoMemory) = G ≡ F
IsHintMade m F s t G (Err (Refused n)) = (G ≡ F) × HintedUnfit m F s t n

-- the clause that a step takes has some number
pub record IsNumberedStep (m : Limits) (F : NumberedFormula) (s : ProofStep) (G : NumberedFormula) : Type 0 where
  pub proof : ProofPart
  pub fits : HintedApplies m F s proof
  pub after : G ≡ hinted_after F s proof

-- a step without a proof part was to be made on F, and G is there now
abbrev pub IsNumberedMade : Limits → NumberedFormula → ProofStep → NumberedFormula → Result Unit CheckError → Type 0
IsNumberedMade m F s G (Ok u) = IsNumberedStep m F s G
IsNumberedMade m F s G (Err NoMemory) = G ≡ F
IsNumberedMade m F s G (Err (Refused n)) = (G ≡ F) × Unfit m (plain F) s n

-- a deletion was to be made on F, and G is there now: the proof part names the clause, and has no hint
abbrev pub IsDeletionNamed : Limits → NumberedFormula → ProofStep → NumberedFormula → Result ProofPart CheckError → Type 0
IsDeletionNamed m F s G (Ok t) = HintedApplies m F s t × (G ≡ hinted_after F s t) × (t ≡ implied_part t.number [])
IsDeletionNamed m F s G (Err NoMemory) = G ≡ F
IsDeletionNamed m F s G (Err (Refused n)) = (G ≡ F) × Unfit m (plain F) s n
