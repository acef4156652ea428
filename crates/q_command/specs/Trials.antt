-- Steps of a log on trial: what one of them does, and what is said of one that is refused.
use Rattle.std.specs.Prelude.{◌≡◌, ◌≤◌, ◌+◌, ℕ, true, false, List, [], ◌∷◌, ◌++◌, length, Option, None, Some}
use Rattle.q_logic.specs.Prelude.{PrenexFormula, ProofPart, ProofStep}
use Rattle.q_shares.specs.Shares.{Share, count}
use Rattle.q_hinted.specs.Logs.{Entry as BothEntry, hinted_in}
use Rattle.q_command.specs.Logs.{steps_of}
use Rattle.q_command.specs.Parts.{share_of}
use Rattle.q_command.specs.Judging.{AreBehind, IsFree, SameTask, IsWrongPlain, IsWrongHinted, bare, plain_in}
use Rattle.q_command.specs.LazyCheckers.{hints_taken}
use Rattle.q_command.specs.Taken.{HasAdded, entries_of}
use Rattle.q_command.specs.declared.trial.Trial.{Trial}
use Rattle.q_command.specs.declared.outcome.Outcome.{Outcome}
use Rattle.q_command.specs.declared.outcome.Outcome.TheVariants.{Verified, RefusedLine, RefusedEnd, RefusedInput, ReadFault, NoMemory}

-- the steps, which begin with the formula F, were tried and counted, and where they are kept, these are they
pub record IsBehind (F : PrenexFormula) (t : Trial) (es : List BothEntry) : Type 0 where
  pub judged : AreBehind (share_of t.part) F t.judges es
  pub counted : t.taken.count ≡ length es
  pub told : t.taken.judged ≡ count (share_of t.part) 0 (steps_of (bare es))
  pub kept : t.taken.keeps ≡ true → entries_of t.taken.steps.items ≡ bare es

-- no step is of the other profile
abbrev pub AreLike : Option ProofPart → List BothEntry → Type 0
AreLike None es = hinted_in es ≡ []
AreLike (Some t) es = plain_in es ≡ []

-- where some steps aren't judged, no undo list is kept
abbrev pub MayPass : Trial → Type 0
MayPass t = (k : ℕ) → share_of t.part k ≡ false → IsFree t.judges

-- one step more
pub record HasTried (e : BothEntry) (old new : Trial) : Type 0 where
  pub behind : (F : PrenexFormula) (es : List BothEntry) → AreLike e.2 es → IsBehind F old es → AreBehind (share_of old.part) F new.judges (es ++ e ∷ [])
  pub part : new.part ≡ old.part
  pub free : IsFree old.judges → IsFree new.judges
  pub same : SameTask old.judges new.judges
  pub hints : hints_taken new.judges.hinted ≤ hints_taken old.judges.hinted + 1
  pub added : HasAdded (e.0, e.1) (share_of old.part old.taken.count) old.taken new.taken

-- the step is wrong behind those of its profile
abbrev pub IsWrong : Share → PrenexFormula → List BothEntry → ProofStep → Option ProofPart → ℕ → Type 0
IsWrong j F es s None cause = IsWrongPlain j F (plain_in es) s cause
IsWrong j F es s (Some t) cause = IsWrongHinted j F (hinted_in es) s t cause

-- what is said of a step behind others
abbrev pub Convicts : Share → Outcome → PrenexFormula → List BothEntry → BothEntry → Type 0
Convicts j (Verified n) F es e = ⊥
Convicts j (RefusedLine n c) F es e = (n ≡ e.0) × IsWrong j F es e.1 e.2 c
Convicts j (RefusedEnd c) F es e = ⊥
Convicts j (RefusedInput r n c) F es e = ⊥
Convicts j ReadFault F es e = ⊥
Convicts j NoMemory F es e = Unit {0}

-- so of each log whose steps were tried so far
abbrev pub ConvictsBehind : Outcome → Trial → BothEntry → Type 0
ConvictsBehind o t e =
    (F : PrenexFormula) (es : List BothEntry) → AreLike e.2 es → IsBehind F t es → Convicts (share_of t.part) o F es e
