-- A log whose steps are made while it is read: what some bytes of it do, and what its end leaves.
use Rattle.std.specs.Prelude.{◌≡◌, ◌≤◌, ◌+◌, nat_le, ℕ, List, [], ◌++◌, length, take, drop, if◌then◌else◌, Option, None, Some, false}
use Rattle.q_logic.specs.Prelude.{PrenexFormula, AreAlike, ProofStep, after, standard}
use Rattle.q_same_steps.specs.Making.{Applies, Unfit, made}
use Rattle.q_io.specs.Files.{Disk, bytes_at}
use Rattle.q_text.specs.Texts.{line_from}
use Rattle.q_text.specs.Tokens.{all_handed, line_of}
use Rattle.q_dimacs.specs.Offences.{Offence}
use Rattle.q_log.specs.declared.error.LogError.{LogError}
use Rattle.q_log.specs.declared.error.LogError.TheVariants as log
use Rattle.q_hinted.specs.Logs.{Entry as BothEntry, Entries, behind, parsed, past_limit, read_entries}
use Rattle.q_hinted.specs.Reading.{BothState, to_come, unless_refused}
use Rattle.q_judge.specs.declared.error.CheckError.{CheckError}
use Rattle.q_judge.specs.declared.error.CheckError.TheVariants as check
use Rattle.q_command.specs.Judging.{bare}
use Rattle.q_command.specs.Logs.{Entry, steps_of}
use Rattle.q_command.specs.declared.input.InputError.{InputError}
use Rattle.q_command.specs.declared.input.InputError.TheVariants as input
use Rattle.q_run_apply.specs.Applications.{ApplyFiles, AreMade, EndsAt, IsRefusedAt, Makes, OfInput, offence_in}
use Rattle.q_run_apply.specs.declared.applied.Applied.{Applied}
use Rattle.q_run_apply.specs.declared.applying.Reached.{Reached}
use Rattle.q_run_apply.specs.declared.applied.Applied.TheVariants as outcome
use Rattle.q_run_apply.specs.declared.maker.Maker.{Maker}
use Rattle.q_run_apply.specs.declared.reading.Made.{Made}
use Rattle.q_run_apply.specs.declared.reading.Reading.{Reading}

-- what is said of IN where it holds no formula, of a log that can't be read on, and of a step that can't be made
abbrev pub refused_input : InputError → Applied
refused_input (input.Refused k c) = outcome.RefusedInput k c
refused_input input.Fault = outcome.ReadFault
refused_input input.NoMemory = outcome.NoMemory

abbrev pub log_refused : LogError → Applied
log_refused (log.BadLine n) = outcome.RefusedLine n 1
log_refused (log.Limit n) = outcome.RefusedLine n 8
log_refused log.NoMemory = outcome.NoMemory

abbrev pub step_refused : ℕ → CheckError → Applied
step_refused n (check.Refused c) = outcome.RefusedLine n c
step_refused n check.NoMemory = outcome.NoMemory

-- the checker has the limits of the program and keeps no undo list
pub record IsUnderWay (t : Maker) : Type 0 where
  pub limits : t.checker.limits ≡ standard
  pub keeps : t.checker.keeps ≡ false

-- no step is made
pub record IsBegun (F : PrenexFormula) (t : Maker) : Type 0 where
  pub under_way : IsUnderWay t
  pub alike : AreAlike F t.checker.formula
  pub none : t.steps ≡ 0

-- one step more is made
pub record Goes (s : ProofStep) (old new : Maker) : Type 0 where
  pub fits : Applies standard old.checker.formula s
  pub alike : AreAlike (after old.checker.formula s) new.checker.formula
  pub under_way : IsUnderWay new
  pub steps : new.steps ≡ old.steps + 1

-- what is said of a step that is not made
abbrev pub Convicts : Applied → PrenexFormula → Entry → Type 0
Convicts (outcome.Whole n) E e = ⊥
Convicts (outcome.Broken n k) E e = ⊥
Convicts (outcome.RefusedLine n c) E e = (n ≡ e.0) × Unfit standard E e.1 c
Convicts (outcome.RefusedInput n c) E e = ⊥
Convicts outcome.ReadFault E e = ⊥
Convicts outcome.WriteFault E e = ⊥
Convicts outcome.NoMemory E e = Unit {0}

-- these steps are made from F on
pub record IsSoFar (F : PrenexFormula) (es : List Entry) (t : Maker) : Type 0 where
  pub steps : AreMade F (steps_of es)
  pub alike : AreAlike (made F (steps_of es)) t.checker.formula
  pub count : t.steps ≡ length es

-- what those words say that are still to end, where these bytes follow
abbrev pub open_words : BothState → List ℕ → Entries
open_words r rest =
    if nat_le (length rest) r.left
    then parsed (λ p. None) r.place (all_handed r.tokens rest)
    else parsed (past_limit (line_from (line_of r.tokens) (take r.left rest))) r.place (all_handed r.tokens (take r.left rest))

abbrev pub words_to_come : BothState → List ℕ → Entries
words_to_come r rest = unless_refused r.refused (open_words r rest)

-- nothing was refused, and there is room to count a step for each byte
pub record IsOpen (r : Reading) : Type 0 where
  pub under_way : IsUnderWay r.maker
  pub unrefused : r.reader.refused ≡ None
  pub room : r.maker.steps + r.reader.left ≤ 1099511627776

-- these bytes of the log are read, and all steps in them are made
pub record Stands (F : PrenexFormula) (r : Reading) (bytes : List ℕ) : Type 0 where
  pub entries : List BothEntry
  pub log : (rest : List ℕ) → read_entries standard.bytes (bytes ++ rest) ≡ behind entries (to_come r.reader rest)
  pub offence : (rest : List ℕ) → offence_in (bytes ++ rest) ≡ (words_to_come r.reader rest).refused
  pub so_far : IsSoFar F (bare entries) r.maker

-- these bytes more are read
pub record Advances (old new : Reading) (bytes : List ℕ) : Type 0 where
  pub stands : (F : PrenexFormula) → (front : List ℕ) → Stands F old front → Stands F new (front ++ bytes)
  pub left : new.reader.left + length bytes ≡ old.reader.left
  pub goes_on : IsOpen new

-- what is said of a log whose steps are not all made
abbrev pub LogRefuses : Applied → PrenexFormula → List ℕ → Type 0
LogRefuses (outcome.Whole n) F log = ⊥
LogRefuses (outcome.Broken n k) F log = ⊥
LogRefuses (outcome.RefusedLine n c) F log = IsRefusedAt F log n c
LogRefuses (outcome.RefusedInput n c) F log = ⊥
LogRefuses outcome.ReadFault F log = Unit {0}
LogRefuses outcome.WriteFault F log = ⊥
LogRefuses outcome.NoMemory F log = Unit {0}

-- it is so of the log that has these bytes behind those that are read
abbrev pub Refuses : Applied → Reading → List ℕ → Type 0
Refuses o r bytes = (F : PrenexFormula) → (front : List ℕ) → Stands F r front → LogRefuses o F (front ++ bytes)

-- n bytes of the file were taken, from a place on
pub record HasTaken (file : List ℕ) (place n : ℕ) (old new : Reading) : Type 0 where
  pub piece : Advances old new (take n (drop place file))
  pub left : n ≤ length (drop place file)
  pub end : n ≡ 0 → length file ≤ place

-- the whole steps of the log are made, and it ends so
pub record IsMade (F : PrenexFormula) (log : List ℕ) (m : Made) : Type 0 where
  pub makes : Makes F log m.maker.steps m.maker.checker.formula
  pub ends : EndsAt m.broken log

-- so it is of the log that has come to its end
abbrev pub Leaves : Reading → Made → Type 0
Leaves r m = (F : PrenexFormula) → (log : List ℕ) → Stands F r log → IsMade F log m

-- nothing is read yet, and the log begins with the formula
pub record IsStarted (F : PrenexFormula) (r : Reading) : Type 0 where
  pub stands : Stands F r []
  pub left : r.reader.left ≡ 1099511627776
  pub goes_on : IsOpen r

-- the steps of LOG are made from the formula of IN on
abbrev pub HasMade : ApplyFiles → Disk → Made → Type 0
HasMade n disk m = OfInput n disk (λ F log. IsMade F log m)

-- why they are not
abbrev pub Refused : Applied → ApplyFiles → Disk → Type 0
Refused (outcome.Whole k) n disk = ⊥
Refused (outcome.Broken k line) n disk = ⊥
Refused (outcome.RefusedLine line c) n disk = OfInput n disk (λ F log. IsRefusedAt F log line c)
Refused (outcome.RefusedInput line c) n disk = Offence standard (bytes_at disk n.input) line c
Refused outcome.ReadFault n disk = Unit {0}
Refused outcome.WriteFault n disk = ⊥
Refused outcome.NoMemory n disk = Unit {0}

-- an outcome of a reading: nothing is written
abbrev pub IsRefusal : Applied → Type 0
IsRefusal (outcome.Whole k) = ⊥
IsRefusal (outcome.Broken k line) = ⊥
IsRefusal (outcome.RefusedLine line c) = Unit {0}
IsRefusal (outcome.RefusedInput line c) = Unit {0}
IsRefusal outcome.ReadFault = Unit {0}
IsRefusal outcome.WriteFault = ⊥
IsRefusal outcome.NoMemory = Unit {0}

-- the formula behind the steps that are made
pub record Reaches (m : Made) (r : Reached) : Type 0 where
  pub formula : r.formula ≡ m.maker.checker.formula
  pub steps : r.steps ≡ m.maker.steps
  pub broken : r.broken ≡ m.broken

-- the steps of LOG lead there from the formula of IN
pub record LeadsThere (r : Reached) (F : PrenexFormula) (log : List ℕ) : Type 0 where
  pub makes : Makes F log r.steps r.formula
  pub ends : EndsAt r.broken log

abbrev pub IsReached : ApplyFiles → Disk → Reached → Type 0
IsReached n disk r = OfInput n disk (LeadsThere r)

-- what is said once the formula is written
abbrev pub outcome_of : ℕ → Option ℕ → Applied
outcome_of k None = outcome.Whole k
outcome_of k (Some line) = outcome.Broken k line
