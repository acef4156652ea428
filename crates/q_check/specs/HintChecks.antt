-- A checker of steps with proof parts, and what its calls answer.
use Rattle.std.specs.Prelude.{◌≡◌, ◌⊎◌, ℕ, Bool, List, Option, Result, Ok, Err, unwrap_or, slice_index_or}
use Rattle.q_logic.specs.declared.limits.Limits.{Limits}
use Rattle.q_logic.specs.Prelude.{Literal, Clause, Prefix, NumberedFormula, ProofPart, ShowsDrop, IsUndroppable, HintedValid, HintedCause, hinted_after, plain, Slots, live, ProofStep, UndoEntry}
use Rattle.q_judge.specs.declared.undo.Undo.{Undo}
use Rattle.q_judge.specs.declared.error.CheckError.{CheckError}
use Rattle.q_judge.specs.declared.error.CheckError.TheVariants.{Refused, NoMemory}
use Rattle.q_judge.specs.Tried.{IsEntry}

-- a checker of hints: the numbered formula, the undo list, what holds for all steps, and how many were taken
pub record HintChecked : Type 0 where
  pub formula : NumberedFormula
  pub undo : List UndoEntry
  pub limits : Limits
  pub keeps : Bool
  pub steps : ℕ

-- memory may be missing at any time; a refusal carries the least cause
abbrev pub IsHintRefusal : Limits → NumberedFormula → ProofStep → ProofPart → CheckError → Type 0
IsHintRefusal m F s t (Refused n) = HintedCause m F s t n
IsHintRefusal m F s t NoMemory = Unit {0}

-- a step was tried on F, and G is there now
abbrev pub IsHintTried : Bool → Limits → NumberedFormula → ProofStep → ProofPart → NumberedFormula → Result (Option Undo) CheckError → Type 0
IsHintTried keep m F s t G (Ok u) = HintedValid m F s t × (G ≡ hinted_after F s t) × IsEntry keep (plain F) s u
IsHintTried keep m F s t G (Err NoMemory) = G ≡ F
IsHintTried keep m F s t G (Err (Refused n)) = (G ≡ F) × HintedCause m F s t n

-- a proof part shows that a clause may lose a literal, or the cause why it does not
abbrev pub IsDropJudged : Prefix → Slots → Clause → Literal → ProofPart → Result Unit CheckError → Type 0
IsDropJudged P N C l t (Ok u) = ShowsDrop P N C l t
IsDropJudged P N C l t (Err (Refused n)) =
    ((n ≡ 5) × IsUndroppable P (live N) C l t) ⊎
    ((n ≡ 12) × (¬ IsUndroppable P (live N) C l t) × (¬ ShowsDrop P N C l t))
IsDropJudged P N C l t (Err NoMemory) = Unit {0}

-- the slot of a number, or one that is not there
abbrev pub place_at : List (Option ℕ) → ℕ → ℕ → ℕ
place_at ps none n = unwrap_or (slice_index_or ps n Option.None) none
