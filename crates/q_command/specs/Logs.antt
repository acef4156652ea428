-- What a log says of a formula: its steps are tried one after the other. A log of the first profile is a list of steps;
-- in one of the second profile each step has a proof part. (This project's own.)
use Rattle.std.specs.Prelude.{◌≡◌, ◌⊎◌, ℕ, List, [], ◌∷◌, Option, Some, None}
use Rattle.q_logic.specs.Prelude.{PrenexFormula, Hinted, HintedCause, HintedValid, NumberedFormula, begun, hinted_after, standard, blocks, SameBlocks, SameFormula, ProofStep, Valid, Cause, after}
use Rattle.q_log.specs.declared.error.LogError.{LogError}
use Rattle.q_log.specs.declared.error.LogError.TheVariants.{BadLine, Limit, NoMemory}
use Rattle.q_log.specs.Logs as logs
use Rattle.q_hinted.specs.Logs.{Profile, hinted_in, read_entries}

-- a step with the line on which it begins
abbrev pub Entry : Type 0
Entry = ℕ × ProofStep

abbrev pub steps_of : List Entry → List ProofStep
steps_of [] = []
steps_of (e ∷ es) = e.1 ∷ steps_of es

-- a step with its proof part, and the line on which it begins
abbrev pub HintedEntry : Type 0
HintedEntry = ℕ × Hinted

abbrev pub hinted_of : List HintedEntry → List Hinted
hinted_of [] = []
hinted_of (h ∷ hs) = h.1 ∷ hinted_of hs

-- the steps with their lines, without the proof parts
abbrev pub stripped : List HintedEntry → List Entry
stripped [] = []
stripped (h ∷ hs) = (h.0, h.1.step) ∷ stripped hs

-- the reader's offence, by its line and cause: a bad line has cause 1, too many bytes have cause 8
abbrev pub IsOffence : Option LogError → ℕ → ℕ → Type 0
IsOffence None line cause = ⊥
IsOffence (Some (BadLine n)) line cause = (line ≡ n) × (cause ≡ 1)
IsOffence (Some (Limit n)) line cause = (line ≡ n) × (cause ≡ 8)
IsOffence (Some NoMemory) line cause = ⊥

-- the first step that is not valid, or the offence behind valid steps
abbrev pub IsFirstBad : PrenexFormula → List Entry → Option LogError → ℕ → ℕ → Type 0
IsFirstBad F [] offence line cause = IsOffence offence line cause
IsFirstBad F (e ∷ es) offence line cause =
    ((line ≡ e.0) × Cause standard F e.1 cause)
    ⊎ (Valid standard F e.1 × IsFirstBad (after F e.1) es offence line cause)

-- the first step that is not valid as its proof part shows, or the offence behind valid steps
abbrev pub IsFirstBadHinted : NumberedFormula → List HintedEntry → Option LogError → ℕ → ℕ → Type 0
IsFirstBadHinted N [] offence line cause = IsOffence offence line cause
IsFirstBadHinted N (h ∷ hs) offence line cause =
    ((line ≡ h.0) × HintedCause standard N h.1.step h.1.proof cause)
    ⊎ (HintedValid standard N h.1.step h.1.proof × IsFirstBadHinted (hinted_after N h.1.step h.1.proof) hs offence line cause)

-- a plain log is refused at this line
abbrev pub IsRefusedPlain : PrenexFormula → List ℕ → ℕ → ℕ → Type 0
IsRefusedPlain F log line cause =
    IsFirstBad F (logs.read standard.bytes log).steps (logs.read standard.bytes log).refused line cause

-- so is a log of either profile: one of the second by its steps with their proof parts
abbrev pub IsRefusedAt : PrenexFormula → List ℕ → ℕ → ℕ → Type 0
IsRefusedAt F log line cause =
    ((Profile standard.bytes log ≡ 1) × IsRefusedPlain F log line cause)
    ⊎ ((Profile standard.bytes log ≡ 2) × IsFirstBadHinted (begun F) (hinted_in (read_entries standard.bytes log).entries) (read_entries standard.bytes log).refused line cause)

-- why a formula is not the output
pub record EndsApart (last G : PrenexFormula) (cause : ℕ) : Type 0 where
  pub differ : ¬ SameFormula last G
  pub why :
      ((cause ≡ 9) × ¬ SameBlocks (blocks last.prefix) (blocks G.prefix))
      ⊎ ((cause ≡ 10) × SameBlocks (blocks last.prefix) (blocks G.prefix))
