-- A proof whose steps are judged while it is read.
use Rattle.std.specs.Prelude.{◌≡◌, ◌⊎◌, ◌≤◌, ◌+◌, ◌&&◌, ℕ, Bool, true, false, List, [], ◌∷◌, ◌++◌, length, map, take, drop, Option, None, Some, Result, Ok, Err}
use Rattle.q_logic.specs.Prelude.{PrenexFormula}
use Rattle.q_log.specs.declared.error.LogError.{LogError}
use Rattle.q_hinted.specs.Logs.{Entry as BothEntry, behind, hinted_entry}
use Rattle.q_binary.specs.Forms.{left_of, to_come}
use Rattle.q_shares.specs.Shares.{Share, judged}
use Rattle.q_command.specs.Judging.{bare}
use Rattle.q_command.specs.Logs.{HintedEntry}
use Rattle.q_command.specs.Parts.{share_of}
use Rattle.q_command.specs.declared.part.Part.{Part}
use Rattle.q_run_disprove.specs.Disproofs.{entries_in, proof_of}
use Rattle.q_run_disprove.specs.HintedDisproofs.{HintedSays, hinted_proof, is_hinted, offence_in}
use Rattle.q_run_disprove.specs.HintedReadings.{IsHintSoFar}
use Rattle.q_run_disprove.specs.Judges.{EndsBy, FailsAt, GoesOn, IsJudging, steps_in}
use Rattle.q_run_disprove.specs.Readings.{IsSoFar, SaysWith, log_refused}
use Rattle.q_run_disprove.specs.declared.disproved.Disproved.TheVariants as outcome
use Rattle.q_run_disprove.specs.declared.form.Form.{Form}
use Rattle.q_run_disprove.specs.declared.judge.Judge.{Judge}
use Rattle.q_run_disprove.specs.declared.judge.Judge.TheVariants as judge
use Rattle.q_run_disprove.specs.declared.reading.Reading.{Reading}
use Rattle.q_run_disprove.specs.declared.verdict.Verdict.{Verdict}

-- what the end of the proof tells: there is no step more, or one, or a line that is none
abbrev pub Concludes : Result (Option BothEntry) LogError → Judge → Verdict → Type 0
Concludes (Ok None) k w = EndsBy outcome.RefusedEnd w k
Concludes (Ok (Some e)) k w = FailsAt w e k ⊎ ((w.outcome ≡ outcome.RefusedEnd) × ((new : Judge) × GoesOn e k new))
Concludes (Err x) k w = EndsBy (log_refused x) w k

-- the first step has no proof part
abbrev pub StartsPlain : List BothEntry → Type 0
StartsPlain [] = ⊥
StartsPlain (e ∷ es) = e.2 ≡ None

-- these steps are made from F on, those of the share were judged, and the empty clause was never there
abbrev pub AreJudged : Form → Share → PrenexFormula → List BothEntry → Judge → Type 0
AreJudged form j F es (judge.Open a G p) = (es ≡ []) × (G ≡ F) × (j ≡ share_of p) × (form.keeps ≡ false) × (form.hints ≡ true)
AreJudged form j F es (judge.Plain t) = IsSoFar form.keeps j F (bare es) t × (form.hints ≡ true → StartsPlain es)
AreJudged form j F es (judge.Hinted t) =
    (form.hints ≡ true) × ((h : HintedEntry) × (hs : List HintedEntry) × (es ≡ map hinted_entry (h ∷ hs)) × IsHintSoFar F (h ∷ hs) t)

-- there is room to count a step for each byte
pub record IsOpen (r : Reading) : Type 0 where
  pub judging : IsJudging r.judge
  pub room : steps_in r.judge + left_of r.reader ≤ 1099511627776

-- these bytes of the proof are read, and all steps in them are judged
pub record Stands (form : Form) (j : Share) (F : PrenexFormula) (r : Reading) (bytes : List ℕ) : Type 0 where
  pub entries : List BothEntry
  pub proof : (rest : List ℕ) → entries_in form.binary (bytes ++ rest) ≡ behind entries (to_come r.reader rest)
  pub so_far : AreJudged form j F entries r.judge

-- whether the proof is judged by its hints
abbrev pub by_hints : Form → List ℕ → Bool
by_hints form bytes = form.hints && is_hinted form.binary bytes

-- what is told of a formula and of the bytes of a proof, and with which notes
abbrev pub SaysOfBytes : Form → Share → Verdict → PrenexFormula → List ℕ → Type 0
SaysOfBytes form j w F bytes =
    judged (by_hints form bytes) (HintedSays w.outcome F (hinted_proof form.binary bytes) (offence_in form.binary bytes))
    (SaysWith form.keeps j w F (proof_of form.binary bytes))

-- these bytes more are read
pub record Advances (old new : Reading) (bytes : List ℕ) : Type 0 where
  pub stands : (form : Form) → (j : Share) → (F : PrenexFormula) → (front : List ℕ) → Stands form j F old front → Stands form j F new (front ++ bytes)
  pub left : left_of new.reader + length bytes ≡ left_of old.reader
  pub goes_on : IsOpen new

-- it is so of the proof that has these bytes behind those that are read
abbrev pub Tells : Verdict → Reading → List ℕ → Type 0
Tells v r bytes =
    (form : Form) → (j : Share) → (F : PrenexFormula) → (front : List ℕ) → Stands form j F r front → SaysOfBytes form j v F (front ++ bytes)

-- n bytes of the file were taken, from a place on
pub record HasTaken (file : List ℕ) (place n : ℕ) (old new : Reading) : Type 0 where
  pub piece : Advances old new (take n (drop place file))
  pub left : n ≤ length (drop place file)
  pub end : n ≡ 0 → length file ≤ place

-- nothing is read yet, and the proof begins with the formula
pub record IsStarted (form : Form) (part : Part) (F : PrenexFormula) (r : Reading) : Type 0 where
  pub stands : Stands form (share_of part) F r []
  pub left : left_of r.reader ≡ 1099511627776
  pub goes_on : IsOpen r
