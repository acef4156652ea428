-- `annotate IN OUT LOG HINTED --part=I/N`: all steps are made, those of the part are judged, and their lines are written.
use Rattle.std.specs.Prelude.{ℕ, List, Option}
use Rattle.q_logic.specs.Prelude.{PrenexFormula, standard}
use Rattle.q_io.specs.Files.{Disk, bytes_at}
use Rattle.q_log.specs.Logs.{read}
use Rattle.q_shares.specs.Shares.{Share}
use Rattle.q_command.specs.Checks.{OfFormulas, turns_read}
use Rattle.q_command.specs.Logs.{Entry, EndsApart}
use Rattle.q_command.specs.Parts.{IsFirstBadShared, IsPlainShareLog, IsPlainShareWay, share_of}
use Rattle.q_command.specs.FirstFaults.{untold}
use Rattle.q_command.specs.Told.{Told, OrNoMemory}
use Rattle.q_command.specs.declared.part.Part.{Part}
use Rattle.q_command.specs.declared.outcome.Outcome.{Outcome}
use Rattle.q_command.specs.declared.outcome.Outcome.TheVariants as outcome
use Rattle.q_command.specs.declared.status.Status.{Status}
use Rattle.q_command.specs.declared.status.Status.TheVariants as status
use Rattle.q_run_annotate.specs.AnnotatedLines.{status_of_annotated, line_of_annotated}
use Rattle.q_run_annotate.specs.AnnotatedShares.{IsShareAnnotation}
use Rattle.q_run_annotate.specs.Annotates.{AnnotateFiles, AnnotatesBy, AnswersBy, ChecksBy, IsAnnotatedBy, IsWholeBy, names_read, names_written, three_read}
use Rattle.q_run_annotate.specs.declared.annotated.Annotated.{Annotated}

-- the plain log leads from F to G as far as the share tells
abbrev pub LeadsShared : Share → List ℕ → PrenexFormula → PrenexFormula → Type 0
LeadsShared j log F G = (entries : List Entry) × IsPlainShareLog j log F G entries

-- the plain log is refused at this line
abbrev pub IsRefusedPlainShared : Share → PrenexFormula → List ℕ → ℕ → ℕ → Type 0
IsRefusedPlainShared j F log line cause = IsFirstBadShared j 0 F (read standard.bytes log).steps (read standard.bytes log).refused line cause

-- the steps of a plain log end in a formula other than G
pub record EndsShared (j : Share) (log : List ℕ) (F G : PrenexFormula) (cause : ℕ) : Type 0 where
  pub last : PrenexFormula
  pub way : IsPlainShareWay j log F last
  pub apart : EndsApart last G cause

-- why the part is not written
abbrev pub LogRefusesShared : Share → Outcome → PrenexFormula → PrenexFormula → List ℕ → Type 0
LogRefusesShared j (outcome.Verified n) F G log = ⊥
LogRefusesShared j (outcome.RefusedLine n c) F G log = IsRefusedPlainShared j F log n c
LogRefusesShared j (outcome.RefusedEnd c) F G log = EndsShared j log F G c
LogRefusesShared j (outcome.RefusedInput r n c) F G log = ⊥
LogRefusesShared j outcome.ReadFault F G log = Unit {0}
LogRefusesShared j outcome.NoMemory F G log = Unit {0}

-- so of the files as they were
abbrev pub NotAnnotatedShared : Share → Outcome → AnnotateFiles → Disk → Type 0
NotAnnotatedShared j o n before =
    ChecksBy (λ x F G. LogRefusesShared j x F G (bytes_at before n.log)) o (bytes_at before n.input) (bytes_at before n.output)

-- the files hold formulas, and this is the text of the share
abbrev pub IsAnnotatedShared : Share → AnnotateFiles → Disk → ℕ → List ℕ → Type 0
IsAnnotatedShared j n before steps text = IsAnnotatedBy (IsShareAnnotation j (bytes_at before n.log)) n before steps text

-- the share is written whole
abbrev pub IsWholeShared : Share → ℕ → AnnotateFiles → Disk → Option Disk → Type 0
IsWholeShared j steps n before after = IsWholeBy (IsShareAnnotation j (bytes_at before n.log)) steps n before after

-- what there is to say of a share, and what the files hold then
abbrev pub AnnotatesShared : Share → Annotated → AnnotateFiles → Disk → Option Disk → Type 0
AnnotatesShared j o n before after =
    AnnotatesBy (IsShareAnnotation j (bytes_at before n.log)) (λ x F G. LogRefusesShared j x F G (bytes_at before n.log)) o n before after

-- when each status comes, and what the files hold then
abbrev pub AnswersShared : Share → Status → AnnotateFiles → Disk → Option Disk → Type 0
AnswersShared j given n before after = AnswersBy (LeadsShared j (bytes_at before n.log)) (IsShareAnnotation j (bytes_at before n.log)) given n before after

-- IN and OUT hold formulas, and LOG is a plain log that leads from one to the other as far as the share tells, or it is none
abbrev pub IsShareVerified : Share → List ℕ → List ℕ → List ℕ → Type 0
IsShareVerified j i o l = OfFormulas i o (LeadsShared j l)

abbrev pub IsShareRefused : Share → List ℕ → List ℕ → List ℕ → Type 0
IsShareRefused j i o l = OfFormulas i o (λ F G. ¬ LeadsShared j l F G)

-- the command over a part
abbrev pub told : AnnotateFiles → Part → Told
told n p = record {
  Outcome = Annotated;
  status_of = status_of_annotated;
  line_of = line_of_annotated;
  says = λ o disk after. AnnotatesShared (share_of p) o n disk after;
  gives = λ given disk after. AnswersShared (share_of p) given n disk after;
  answers = λ disk given.
      (IsShareVerified (share_of p) (bytes_at disk n.input) (bytes_at disk n.output) (bytes_at disk n.log) → OrNoMemory given status.Done)
      × (IsShareRefused (share_of p) (bytes_at disk n.input) (bytes_at disk n.output) (bytes_at disk n.log) → OrNoMemory given status.LogRefused);
  reads = names_read n;
  writes = names_written n;
  reads_at = turns_read (three_read n);
  writes_at = untold (names_written n);
}
