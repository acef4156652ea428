-- A log that is tried while it is read: what some bytes of it do, and what its end says.
use Rattle.std.specs.Prelude.{◌≡◌, ◌≤◌, ◌+◌, ℕ, true, List, [], ◌++◌, length, take, drop, None, Some}
use Rattle.q_logic.specs.Prelude.{PrenexFormula, standard}
use Rattle.q_hinted.specs.Logs.{Entry as BothEntry, read_entries, behind}
use Rattle.q_hinted.specs.Reading.{to_come}
use Rattle.q_shares.specs.Shares.{Share}
use Rattle.q_command.specs.Checks.{LogPasses}
use Rattle.q_command.specs.Parts.{LogPassesShared, LogSaysShared, IsRefusedShared, share_of}
use Rattle.q_command.specs.Taken.{entries_of}
use Rattle.q_command.specs.Judging.{SameTask}
use Rattle.q_command.specs.LazyCheckers.{IsHeld, hints_taken}
use Rattle.q_command.specs.Trials.{IsBehind, MayPass}
use Rattle.q_command.specs.declared.audit.Audit.{Audit}
use Rattle.q_command.specs.declared.audit.Keep.{Keep}
use Rattle.q_command.specs.declared.audit.Passed.{Passed}
use Rattle.q_command.specs.declared.part.Part.{Part}
use Rattle.q_command.specs.declared.checking.Checked.{Checked}
use Rattle.q_command.specs.declared.trial.Trial.{Trial}
use Rattle.q_command.specs.declared.outcome.Outcome.{Outcome}
use Rattle.q_command.specs.declared.outcome.Outcome.TheVariants.{Verified, RefusedLine, RefusedEnd, RefusedInput, ReadFault, NoMemory}

-- there is room to count a step for each byte, and steps may be passed where they are not judged
pub record IsOpen (a : Audit) : Type 0 where
  pub room : a.trial.taken.count + a.reader.left ≤ 1099511627776
  pub hints : hints_taken a.trial.judges.hinted ≤ a.trial.taken.count
  pub fewer : a.trial.taken.judged ≤ a.trial.taken.count
  pub may : MayPass a.trial

-- these bytes of a log from the formula F are read, and all steps in them were tried
pub record Stands (F : PrenexFormula) (a : Audit) (bytes : List ℕ) : Type 0 where
  pub entries : List BothEntry
  pub log : (rest : List ℕ) → read_entries standard.bytes (bytes ++ rest) ≡ behind entries (to_come a.reader rest)
  pub steps : IsBehind F a.trial entries

-- what is kept
pub record SameCharge (old new : Trial) : Type 0 where
  pub part : new.part ≡ old.part
  pub task : SameTask old.judges new.judges
  pub keeps : new.taken.keeps ≡ old.taken.keeps

-- these bytes more are read
pub record Advances (old new : Audit) (bytes : List ℕ) : Type 0 where
  pub stands : (F : PrenexFormula) (front : List ℕ) → Stands F old front → Stands F new (front ++ bytes)
  pub same : SameCharge old.trial new.trial
  pub left : new.reader.left + length bytes ≡ old.reader.left
  pub goes_on : IsOpen new

-- what is said of a log before its end
abbrev pub Stops : Share → Outcome → PrenexFormula → List ℕ → Type 0
Stops j (Verified n) F log = ⊥
Stops j (RefusedLine n c) F log = IsRefusedShared j F log n c
Stops j (RefusedEnd c) F log = ⊥
Stops j (RefusedInput r n c) F log = ⊥
Stops j ReadFault F log = Unit {0}
Stops j NoMemory F log = Unit {0}

-- it is so of the log that has these bytes behind those that are read
abbrev pub Refuses : Outcome → Audit → List ℕ → Type 0
Refuses o a bytes = (F : PrenexFormula) (front : List ℕ) → Stands F a front → Stops (share_of a.trial.part) o F (front ++ bytes)

-- n bytes of the file were tried, from a place on
pub record HasTaken (file : List ℕ) (place n : ℕ) (old new : Audit) : Type 0 where
  pub piece : Advances old new (take n (drop place file))
  pub left : n ≤ length (drop place file)
  pub end : n ≡ 0 → length file ≤ place

-- these are all steps of the log, and they were tried
pub record IsAllOf (F : PrenexFormula) (log : List ℕ) (t : Trial) : Type 0 where
  pub entries : List BothEntry
  pub is_log : read_entries standard.bytes log ≡ record { entries = entries; refused = None }
  pub steps : IsBehind F t entries

-- the log has come to its end
pub record HasEnded (a : Audit) (t : Trial) : Type 0 where
  pub all : (F : PrenexFormula) (log : List ℕ) → Stands F a log → IsAllOf F log t
  pub same : SameCharge a.trial t

abbrev pub kept_by : Trial → Keep
kept_by t = record { undo = t.judges.keeps_undo; steps = t.taken.keeps }

-- this is left of the log: on demand the formula F, how many steps there are, and on demand their undo list and they themselves
pub record LogIsTaken (keep : Keep) (log : List ℕ) (F G : PrenexFormula) (p : Passed) : Type 0 where
  pub origin : IsHeld F p.origin
  pub passes : LogPasses keep.undo log F G p.steps p.undo
  pub taken : keep.steps ≡ true → entries_of p.taken.items ≡ passes.entries

-- the same where a share of the steps was judged
pub record LogIsShared (j : Share) (keep : Keep) (log : List ℕ) (F G : PrenexFormula) (p : Passed) : Type 0 where
  pub origin : IsHeld F p.origin
  pub passes : LogPassesShared j keep.undo log F G p.steps p.undo
  pub taken : keep.steps ≡ true → entries_of p.taken.items ≡ passes.entries

-- what is left of a log whose steps were all tried
abbrev pub HasLeft : Trial → PrenexFormula → Passed → Type 0
HasLeft t G p = (F : PrenexFormula) (log : List ℕ) → IsAllOf F log t → LogIsShared (share_of t.part) (kept_by t) log F G p

-- what is said of a log whose steps were all tried
abbrev pub HasFailed : Outcome → Trial → PrenexFormula → Type 0
HasFailed o t G = (F : PrenexFormula) (log : List ℕ) → IsAllOf F log t → LogSaysShared (share_of t.part) o F G log

-- the log ends in the output G, and this is left
abbrev pub Passes : Audit → PrenexFormula → Passed → Type 0
Passes a G p = (F : PrenexFormula) (log : List ℕ) → Stands F a log → LogIsShared (share_of a.trial.part) (kept_by a.trial) log F G p

-- what is said at the end, where the log does not end in the output G
abbrev pub Concludes : Outcome → Audit → PrenexFormula → Type 0
Concludes o a G = (F : PrenexFormula) (log : List ℕ) → Stands F a log → LogSaysShared (share_of a.trial.part) o F G log

-- nothing is read yet, the log begins with the formula, and it is told what to keep and what to judge
pub record IsStarted (a : Audit) (keep : Keep) (p : Part) (F : PrenexFormula) : Type 0 where
  pub stands : Stands F a []
  pub part : a.trial.part ≡ p
  pub undo : a.trial.judges.keeps_undo ≡ keep.undo
  pub steps : a.trial.taken.keeps ≡ keep.steps

-- the same is left, with the formulas that the log leads from and to
abbrev pub with_formulas : PrenexFormula → PrenexFormula → Passed → Checked
with_formulas F G p = record { from = F; to = G; steps = p.steps; undo = p.undo; taken = p.taken }

abbrev pub IsWithEnds : Passed → PrenexFormula → Checked → Type 0
IsWithEnds p G c = (F : PrenexFormula) × (p.origin ≡ Some F) × (c ≡ with_formulas F G p)
