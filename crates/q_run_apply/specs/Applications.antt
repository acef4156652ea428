-- What `apply` says of its files and leaves in them.
use Rattle.std.specs.Prelude.{◌≡◌, ◌⊎◌, nat_le, ℕ, List, [], ◌∷◌, length, take, if◌then◌else◌, Option, None, Some}
use Rattle.q_logic.specs.Prelude.{standard, PrenexFormula, AreAlike, ProofStep, after}
use Rattle.q_same_steps.specs.Making.{Applies, Unfit, made}
use Rattle.q_io.specs.Files.{Disk, HoldsBytes, MayHoldFront, bytes_at}
use Rattle.q_text.specs.Texts.{tokens_ended, line_after}
use Rattle.q_dimacs.specs.Offences.{Offence}
use Rattle.q_dimacs.specs.Writing.{formula_text}
use Rattle.q_log.specs.declared.error.LogError.{LogError}
use Rattle.q_log.specs.declared.error.LogError.TheVariants.{BadLine}
use Rattle.q_hinted.specs.Grammar.{nowhere}
use Rattle.q_hinted.specs.Logs.{Entries, parsed, past_limit, read_entries}
use Rattle.q_command.specs.Checks.{Exactly, IsFileOf, IsNoFormula, input_then}
use Rattle.q_command.specs.Judging.{bare}
use Rattle.q_command.specs.Logs.{Entry, steps_of, IsOffence}
use Rattle.q_command.specs.FirstFaults.{untold}
use Rattle.q_command.specs.Told.{Told, OrNoMemory}
use Rattle.q_command.specs.declared.status.Status.{Status}
use Rattle.q_command.specs.declared.status.Status.TheVariants as status
use Rattle.q_run_apply.specs.AppliedLines.{status_of_applied, line_of_applied}
use Rattle.q_run_apply.specs.declared.names.ApplyNames.{ApplyNames}
use Rattle.q_run_apply.specs.declared.applied.Applied.{Applied}
use Rattle.q_run_apply.specs.declared.applied.Applied.TheVariants as outcome

-- the names of the three files
pub record ApplyFiles : Type 0 where
  pub input : List ℕ
  pub log : List ℕ
  pub output : List ℕ

abbrev pub files_of : ApplyNames → ApplyFiles
files_of n = record { input = n.input.now; log = n.log.now; output = n.output.now }

-- the names of the files that are read, and of the one that is written
abbrev pub names_read : ApplyFiles → List (List ℕ)
names_read n = n.input ∷ n.log ∷ []

abbrev pub names_written : ApplyFiles → List (List ℕ)
names_written n = n.output ∷ []

-- the whole steps of a log, of either profile, up to its first offence; what proof parts say does not matter
abbrev pub entries_in : List ℕ → List Entry
entries_in log = bare (read_entries standard.bytes log).entries

abbrev pub steps_in : List ℕ → List ProofStep
steps_in log = steps_of (entries_in log)

-- what those words say that end within the limit: a word with nothing behind it, and a step that is not whole, are no offence at the end
abbrev pub words_read : ℕ → List ℕ → Entries
words_read limit log =
    if nat_le (length log) limit then parsed (λ p. None) nowhere (tokens_ended log)
    else parsed (past_limit (line_after (take limit log))) nowhere (tokens_ended (take limit log))

-- the offence of a log that has more against it than that it breaks off
abbrev pub offence_in : List ℕ → Option LogError
offence_in log = (words_read standard.bytes log).refused

-- the log comes to its end behind a step, or it breaks off on this line
abbrev pub EndsAt : Option ℕ → List ℕ → Type 0
EndsAt None log = (read_entries standard.bytes log).refused ≡ None
EndsAt (Some line) log = (read_entries standard.bytes log).refused ≡ Some (BadLine line)

-- the steps can be made one after the other
abbrev pub AreMade : PrenexFormula → List ProofStep → Type 0
AreMade F [] = Unit {0}
AreMade F (s ∷ ss) = Applies standard F s × AreMade (after F s) ss

-- the whole steps of the log can be made, and it has no offence: it may break off
pub record CanBeMade (F : PrenexFormula) (log : List ℕ) : Type 0 where
  pub steps : AreMade F (steps_in log)
  pub no_offence : offence_in log ≡ None

-- they are so many, and G is the formula behind them, up to the order of clauses
pub record Makes (F : PrenexFormula) (log : List ℕ) (n : ℕ) (G : PrenexFormula) : Type 0 where
  pub can : CanBeMade F log
  pub count : n ≡ length (steps_in log)
  pub alike : AreAlike (made F (steps_in log)) G

-- the first step that can't be made, or the offence behind the steps
abbrev pub IsFirstUnfit : PrenexFormula → List Entry → Option LogError → ℕ → ℕ → Type 0
IsFirstUnfit F [] offence line cause = IsOffence offence line cause
IsFirstUnfit F (e ∷ es) offence line cause =
    ((line ≡ e.0) × Unfit standard F e.1 cause) ⊎ (Applies standard F e.1 × IsFirstUnfit (after F e.1) es offence line cause)

-- the log is refused at this line
abbrev pub IsRefusedAt : PrenexFormula → List ℕ → ℕ → ℕ → Type 0
IsRefusedAt F log line cause = IsFirstUnfit F (entries_in log) (offence_in log) line cause

-- IN holds a formula of which this is true, with what LOG holds
pub record OfInput (n : ApplyFiles) (disk : Disk) (P : PrenexFormula → List ℕ → Type 0) : Type 0 where
  pub formula : PrenexFormula
  pub is_input : IsFileOf (bytes_at disk n.input) formula
  pub holds : P formula (bytes_at disk n.log)

-- the steps of LOG lead from F to G, and OUT holds the text of G
pub record IsWhole (steps : ℕ) (broken : Option ℕ) (n : ApplyFiles) (before : Disk) (after : Option Disk) (F : PrenexFormula) (log : List ℕ) : Type 0 where
  pub result : PrenexFormula
  pub makes : Makes F log steps result
  pub ends : EndsAt broken log
  pub written : HoldsBytes n.output (formula_text result) before after

abbrev pub IsApplied : ℕ → Option ℕ → ApplyFiles → Disk → Option Disk → Type 0
IsApplied steps broken n before after = OfInput n before (IsWhole steps broken n before after)

-- OUT is as before, or holds a front of that text
pub record IsFront (n : ApplyFiles) (before : Disk) (after : Option Disk) (F : PrenexFormula) (log : List ℕ) : Type 0 where
  pub result : PrenexFormula
  pub steps : ℕ
  pub makes : Makes F log steps result
  pub left : MayHoldFront n.output (formula_text result) before after

abbrev pub IsPart : ApplyFiles → Disk → Option Disk → Type 0
IsPart n before after = OfInput n before (IsFront n before after)

-- what there is to say of the files; nothing is created before all steps are made
abbrev pub Says : Applied → ApplyFiles → Disk → Option Disk → Type 0
Says (outcome.Whole k) n before after = IsApplied k None n before after
Says (outcome.Broken k line) n before after = IsApplied k (Some line) n before after
Says (outcome.RefusedLine line c) n before after = OfInput n before (λ F log. IsRefusedAt F log line c) × (after ≡ Some before)
Says (outcome.RefusedInput line c) n before after = Offence standard (bytes_at before n.input) line c × (after ≡ Some before)
Says outcome.ReadFault n before after = after ≡ Some before
Says outcome.WriteFault n before after = IsPart n before after
Says outcome.NoMemory n before after = (after ≡ Some before) ⊎ IsPart n before after

-- IN holds a formula, and the steps of LOG can be made from it on, or not
abbrev pub IsApplicable : ApplyFiles → Disk → Type 0
IsApplicable n disk = OfInput n disk CanBeMade

abbrev pub IsInapplicable : ApplyFiles → Disk → Type 0
IsInapplicable n disk = OfInput n disk (λ F log. ¬ CanBeMade F log)

-- OUT holds what is due
abbrev pub HoldsResult : ApplyFiles → Disk → Option Disk → Type 0
HoldsResult n before after = (steps : ℕ) × (broken : Option ℕ) × IsApplied steps broken n before after

-- a status with which nothing was created
abbrev pub IsUntouched : Status → Type 0
IsUntouched s = (s ≡ status.LogRefused) ⊎ (s ≡ status.InputRefused) ⊎ (s ≡ status.ReadFault)

-- when each status of `apply` comes, and what the files hold then
pub record AppliesExactly (given : Status) (n : ApplyFiles) (before : Disk) (after : Option Disk) : Type 0 where
  pub done : Exactly given status.Done (IsApplicable n before)
  pub written : given ≡ status.Done → HoldsResult n before after
  pub log_refused : Exactly given status.LogRefused (IsInapplicable n before)
  pub input_refused : Exactly given status.InputRefused (IsNoFormula (bytes_at before n.input))
  pub untouched : IsUntouched given → after ≡ Some before
  pub left : (given ≡ status.WriteFault) ⊎ (given ≡ status.NoMemory) → (after ≡ Some before) ⊎ IsPart n before after

-- the command; the steps of a log are made, or it is refused
abbrev pub told : ApplyFiles → Told
told n = record {
  Outcome = Applied;
  status_of = status_of_applied;
  line_of = line_of_applied;
  says = λ o disk after. Says o n disk after;
  gives = λ given disk after. AppliesExactly given n disk after;
  answers = λ disk given.
      (IsApplicable n disk → OrNoMemory given status.Done) × (IsInapplicable n disk → OrNoMemory given status.LogRefused);
  reads = names_read n;
  writes = names_written n;
  reads_at = input_then n.input n.log;
  writes_at = untold (names_written n);
}
