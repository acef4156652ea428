-- What `annotate` says and leaves, over the files before and after.
use Rattle.std.specs.Prelude.{◌≡◌, ◌⊎◌, ℕ, List, [], ◌∷◌, Option, Some, length}
use Rattle.std.specs.List.{AllByRecursion}
use Rattle.q_logic.specs.Prelude.{PrenexFormula, Hinted, HintedRun, strip, standard, kind_of, ProofStep}
use Rattle.q_dimacs.specs.Offences.{Offence}
use Rattle.q_io.specs.Files.{Disk, HoldsBytes, MayHoldFront, bytes_at}
use Rattle.q_log.specs.Logs.{Steps}
use Rattle.q_hinted.specs.Parts.{IsPartOf}
use Rattle.q_hinted.specs.Texts.{log_text}
use Rattle.q_command.specs.Checks.{Checks, IsFileOf, IsNoFormula, IsPlainRunLog, IsPlainWay, IsUnverified, OfFormulas, Exactly, turns_read}
use Rattle.q_command.specs.Logs.{Entry, steps_of, EndsApart, IsRefusedPlain}
use Rattle.q_command.specs.FirstFaults.{Turn, untold}
use Rattle.q_command.specs.Names.{ThreeNames, three}
use Rattle.q_command.specs.Told.{Told, OrNoMemory}
use Rattle.q_command.specs.declared.outcome.Outcome.{Outcome}
use Rattle.q_command.specs.declared.outcome.Outcome.TheVariants as outcome
use Rattle.q_command.specs.declared.outcome.Role.TheVariants.{In, Out}
use Rattle.q_command.specs.declared.status.Status.{Status}
use Rattle.q_command.specs.declared.status.Status.TheVariants as status
use Rattle.q_run_annotate.specs.AnnotatedLines.{status_of_annotated, line_of_annotated}
use Rattle.q_run_annotate.specs.declared.names.AnnotateNames.{AnnotateNames}
use Rattle.q_run_annotate.specs.declared.annotated.Annotated.{Annotated}
use Rattle.q_run_annotate.specs.declared.annotated.Annotated.TheVariants.{Written, Unverified, WriteFault, NoMemory}

-- the names of the four files
pub record AnnotateFiles : Type 0 where
  pub input : List ℕ
  pub output : List ℕ
  pub log : List ℕ
  pub hinted : List ℕ

abbrev pub files_of : AnnotateNames → AnnotateFiles
files_of n = record { input = n.input.now; output = n.output.now; log = n.log.now; hinted = n.hinted.now }

-- the names of the files that are read
abbrev pub names_read : AnnotateFiles → List (List ℕ)
names_read n = n.input ∷ n.output ∷ n.log ∷ []

-- the names of the files that are written
abbrev pub names_written : AnnotateFiles → List (List ℕ)
names_written n = n.hinted ∷ []

-- the names of the files that are read
abbrev pub three_read : AnnotateFiles → ThreeNames
three_read n = three n.input n.output n.log

-- the canonical text of a hinted log that leads from F to G, and whose steps are these
pub record IsHintedLog (F G : PrenexFormula) (ss : List ProofStep) (text : List ℕ) : Type 0 where
  pub hinted : List Hinted
  pub run : HintedRun F hinted G
  pub steps : strip hinted ≡ ss
  pub parts : AllByRecursion (λ h. IsPartOf (kind_of h.step) h.proof) hinted
  pub text_is : text ≡ log_text hinted

-- the text of LOG's steps with hints
pub record IsAnnotation (log : List ℕ) (steps : ℕ) (F G : PrenexFormula) (text : List ℕ) : Type 0 where
  pub entries : List Entry
  pub is_log : Steps standard.bytes log ≡ Some entries
  pub count : steps ≡ length entries
  pub hinted : IsHintedLog F G (steps_of entries) text

-- the log, of the first profile, leads from F to G
abbrev pub LeadsPlain : List ℕ → PrenexFormula → PrenexFormula → Type 0
LeadsPlain log F G = (entries : List Entry) × IsPlainRunLog log F G entries

-- IN and OUT hold formulas, and LOG is a plain log that leads from one to the other
abbrev pub IsPlainVerified : List ℕ → List ℕ → List ℕ → Type 0
IsPlainVerified i o l = OfFormulas i o (LeadsPlain l)

-- IN and OUT hold formulas, and LOG is no plain log that leads from one to the other
abbrev pub IsNoPlainRun : List ℕ → List ℕ → List ℕ → Type 0
IsNoPlainRun i o l = OfFormulas i o (λ F G. ¬ LeadsPlain l F G)

-- the steps of a plain log are valid and end in a formula other than G
pub record EndsPlain (log : List ℕ) (F G : PrenexFormula) (cause : ℕ) : Type 0 where
  pub last : PrenexFormula
  pub way : IsPlainWay log F last
  pub apart : EndsApart last G cause

-- why a log is not written with hints; one of the second profile is refused as a bad line
abbrev pub LogRefuses : Outcome → PrenexFormula → PrenexFormula → List ℕ → Type 0
LogRefuses (outcome.Verified n) F G log = ⊥
LogRefuses (outcome.RefusedLine n c) F G log = IsRefusedPlain F log n c
LogRefuses (outcome.RefusedEnd c) F G log = EndsPlain log F G c
LogRefuses (outcome.RefusedInput r n c) F G log = ⊥
LogRefuses outcome.ReadFault F G log = Unit {0}
LogRefuses outcome.NoMemory F G log = Unit {0}

-- a log is refused where this is said of it, between two formulas
abbrev pub Refusal : Type 1
Refusal = Outcome → PrenexFormula → PrenexFormula → Type 0

-- what is said of the three files, where R is what is said of the log
abbrev pub ChecksBy : Refusal → Outcome → List ℕ → List ℕ → Type 0
ChecksBy R (outcome.Verified n) i o = ⊥
ChecksBy R (outcome.RefusedLine n c) i o = OfFormulas i o (R (outcome.RefusedLine n c))
ChecksBy R (outcome.RefusedEnd c) i o = OfFormulas i o (R (outcome.RefusedEnd c))
ChecksBy R (outcome.RefusedInput In n c) i o = Offence standard i n c
ChecksBy R (outcome.RefusedInput Out n c) i o = (F : PrenexFormula) × IsFileOf i F × Offence standard o n c
ChecksBy R outcome.ReadFault i o = Unit {0}
ChecksBy R outcome.NoMemory i o = Unit {0}

abbrev pub PlainChecks : Outcome → List ℕ → List ℕ → List ℕ → Type 0
PlainChecks w i o l = ChecksBy (λ x F G. LogRefuses x F G l) w i o

-- why HINTED is not written, of the files as they were
abbrev pub NotAnnotated : Outcome → AnnotateFiles → Disk → Type 0
NotAnnotated o n before = PlainChecks o (bytes_at before n.input) (bytes_at before n.output) (bytes_at before n.log)

-- a text that is to be written, by its number of steps, between two formulas
abbrev pub Annotation : Type 1
Annotation = ℕ → PrenexFormula → PrenexFormula → List ℕ → Type 0

-- the files hold formulas, and this is the text between them
abbrev pub IsAnnotatedBy : Annotation → AnnotateFiles → Disk → ℕ → List ℕ → Type 0
IsAnnotatedBy A n before steps text =
    OfFormulas (bytes_at before n.input) (bytes_at before n.output) (λ F G. A steps F G text)

-- HINTED is written whole
abbrev pub IsWholeBy : Annotation → ℕ → AnnotateFiles → Disk → Option Disk → Type 0
IsWholeBy A steps n before after =
    OfFormulas (bytes_at before n.input) (bytes_at before n.output) (λ F G.
    (text : List ℕ) × A steps F G text × HoldsBytes n.hinted text before after)

-- a fault or want of memory while it was written
abbrev pub IsPartBy : Annotation → AnnotateFiles → Disk → Option Disk → Type 0
IsPartBy A n before after =
    OfFormulas (bytes_at before n.input) (bytes_at before n.output) (λ F G.
    (steps : ℕ) × (text : List ℕ) × A steps F G text × MayHoldFront n.hinted text before after)

-- what there is to say, and what the files hold then
abbrev pub AnnotatesBy : Annotation → Refusal → Annotated → AnnotateFiles → Disk → Option Disk → Type 0
AnnotatesBy A R (Written k) n before after = IsWholeBy A k n before after
AnnotatesBy A R (Unverified o) n before after =
    IsUnverified o × ChecksBy R o (bytes_at before n.input) (bytes_at before n.output) × (after ≡ Some before)
AnnotatesBy A R WriteFault n before after = IsPartBy A n before after
AnnotatesBy A R NoMemory n before after = (after ≡ Some before) ⊎ IsPartBy A n before after

-- the files hold formulas, and this is the text of LOG's steps with hints
abbrev pub IsAnnotated : AnnotateFiles → Disk → ℕ → List ℕ → Type 0
IsAnnotated n before steps text = IsAnnotatedBy (IsAnnotation (bytes_at before n.log)) n before steps text

abbrev pub IsWhole : ℕ → AnnotateFiles → Disk → Option Disk → Type 0
IsWhole steps n before after = IsWholeBy (IsAnnotation (bytes_at before n.log)) steps n before after

abbrev pub IsPart : AnnotateFiles → Disk → Option Disk → Type 0
IsPart n before after = IsPartBy (IsAnnotation (bytes_at before n.log)) n before after

abbrev pub Annotates : Annotated → AnnotateFiles → Disk → Option Disk → Type 0
Annotates o n before after =
    AnnotatesBy (IsAnnotation (bytes_at before n.log)) (λ x F G. LogRefuses x F G (bytes_at before n.log)) o n before after

abbrev pub IsUntouched : Status → Type 0
IsUntouched s = (s ≡ status.LogRefused) ⊎ (s ≡ status.InputRefused) ⊎ (s ≡ status.ReadFault)

-- when each status comes, where L says that the log leads from one formula to another, and what the files hold then
pub record AnswersBy (L : PrenexFormula → PrenexFormula → Type 0) (A : Annotation) (given : Status) (n : AnnotateFiles) (before : Disk) (after : Option Disk) : Type 0 where
  pub done : Exactly given status.Done (OfFormulas (bytes_at before n.input) (bytes_at before n.output) L)
  pub written : given ≡ status.Done → (k : ℕ) × IsWholeBy A k n before after
  pub log_refused : Exactly given status.LogRefused (OfFormulas (bytes_at before n.input) (bytes_at before n.output) (λ F G. ¬ L F G))
  pub input_refused : Exactly given status.InputRefused (IsNoFormula (bytes_at before n.input) ⊎ IsNoFormula (bytes_at before n.output))
  pub untouched : IsUntouched given → after ≡ Some before
  pub left : (given ≡ status.WriteFault) ⊎ (given ≡ status.NoMemory) → (after ≡ Some before) ⊎ IsPartBy A n before after

-- when each status of `annotate` comes, and what the files hold then
abbrev pub AnnotatesExactly : Status → AnnotateFiles → Disk → Option Disk → Type 0
AnnotatesExactly given n before after = AnswersBy (LeadsPlain (bytes_at before n.log)) (IsAnnotation (bytes_at before n.log)) given n before after

-- what `check` says of the files where it verified so many steps
abbrev pub SaysVerified : ℕ → List ℕ → List ℕ → List ℕ → Type 0
SaysVerified k i o l = Checks (outcome.Verified k) i o l

-- the command; a plain log that leads there gets hints, another one is refused
abbrev pub told : AnnotateFiles → Told
told n = record {
  Outcome = Annotated;
  status_of = status_of_annotated;
  line_of = line_of_annotated;
  says = λ o disk after. Annotates o n disk after;
  gives = λ given disk after. AnnotatesExactly given n disk after;
  answers = λ disk given.
      (IsPlainVerified (bytes_at disk n.input) (bytes_at disk n.output) (bytes_at disk n.log) → OrNoMemory given status.Done)
      × (IsNoPlainRun (bytes_at disk n.input) (bytes_at disk n.output) (bytes_at disk n.log) → OrNoMemory given status.LogRefused);
  reads = names_read n;
  writes = names_written n;
  reads_at = turns_read (three_read n);
  writes_at = untold (names_written n);
}
