-- What `validate` says of its files.
use Rattle.std.specs.Prelude.{◌≡◌, ◌≢◌, ◌⊎◌, ℕ, List, [], ◌∷◌, Option, Some}
use Rattle.q_logic.specs.Prelude.{Literal, standard, PrenexFormula, CertificateView, trees_of, SkolemOf}
use Rattle.q_logic.specs.Branches.{claim_of, branches}
use Rattle.q_io.specs.Files.{Disk, bytes_at}
use Rattle.q_dimacs.specs.Offences.{Offence}
use Rattle.q_aiger.specs.Circuits.{AreCircuits, Offence as CircuitsOffence}
use Rattle.q_aiger.specs.Alike.{IsNoCircuits}
use Rattle.q_search.specs.Budgets.{IsBelow}
use Rattle.q_certificate.specs.Prelude.{Fits}
use Rattle.q_validate.specs.Answers.{IsAnswer}
use Rattle.q_validate.specs.Refusals.{IsRefused}
use Rattle.q_validate.specs.declared.validating.Answer.{Answer}
use Rattle.q_validate.specs.declared.validating.Answer.TheVariants as answer
use Rattle.q_validate.specs.declared.error.ValidateError.{ValidateError}
use Rattle.q_validate.specs.declared.error.ValidateError.TheVariants as refusal
use Rattle.q_command.specs.Checks.{IsFileOf, IsFormulaFile, IsNoFormula, Exactly, input_then}
use Rattle.q_command.specs.Told.{Told, OrNoMemory}
use Rattle.q_command.specs.declared.input.InputError.{InputError}
use Rattle.q_command.specs.declared.input.InputError.TheVariants as input
use Rattle.q_command.specs.declared.unfit.Unfit.{Unfit}
use Rattle.q_command.specs.declared.unfit.Unfit.TheVariants as unfit
use Rattle.q_command.specs.declared.circuits.CircuitsError.{CircuitsError}
use Rattle.q_command.specs.declared.circuits.CircuitsError.TheVariants as text
use Rattle.q_command.specs.declared.status.Status.{Status}
use Rattle.q_command.specs.declared.status.Status.TheVariants as status
use Rattle.q_run_validate.specs.declared.names.ValidateNames.{ValidateNames}
use Rattle.q_run_validate.specs.declared.validated.Validated.{Validated}
use Rattle.q_run_validate.specs.declared.validated.Validated.TheVariants.{Valid, Invalid, Unknown, RefusedInput, RefusedText, RefusedCircuits, ReadFault, NoMemory}
use Rattle.q_run_validate.specs.ValidatedLines.{invalid_line, status_of_validated, line_of_validated}

-- the names of the two files
pub record ValidateFiles : Type 0 where
  pub input : List ℕ
  pub cert : List ℕ

abbrev pub files_of : ValidateNames → ValidateFiles
files_of n = record { input = n.input.now; cert = n.cert.now }

-- the names of the files that are read
abbrev pub names_read : ValidateFiles → List (List ℕ)
names_read n = n.input ∷ n.cert ∷ []

-- the outcome of a failed reading or of a refusal
abbrev pub refused_input : InputError → Validated
refused_input (input.Refused k c) = RefusedInput k c
refused_input input.Fault = ReadFault
refused_input input.NoMemory = NoMemory

abbrev pub refused_text : CircuitsError → Validated
refused_text (text.Refused k c) = RefusedText k c
refused_text text.Fault = ReadFault
refused_text text.NoMemory = NoMemory

-- the reason, as the crate below tells it
abbrev pub error_of : Unfit → ValidateError
error_of (unfit.MissingOutput v) = refusal.MissingOutput v
error_of (unfit.StrangeOutput v) = refusal.StrangeOutput v
error_of (unfit.StrangeInput v) = refusal.StrangeInput v
error_of (unfit.Reads v u) = refusal.Reads v u

abbrev pub refused_circuits : ValidateError → Validated
refused_circuits (refusal.MissingOutput v) = RefusedCircuits (unfit.MissingOutput v)
refused_circuits (refusal.StrangeOutput v) = RefusedCircuits (unfit.StrangeOutput v)
refused_circuits (refusal.StrangeInput v) = RefusedCircuits (unfit.StrangeInput v)
refused_circuits (refusal.Reads v u) = RefusedCircuits (unfit.Reads v u)
refused_circuits refusal.NoMemory = NoMemory

-- the circuits fit, and this is the answer
abbrev pub Answers : Answer → PrenexFormula → CertificateView → Option ℕ → Type 0
Answers a F c budget = Fits F.prefix c × IsAnswer F c budget a

-- what the outcome says of circuits of a formula
abbrev pub Judges : Validated → PrenexFormula → CertificateView → Option ℕ → Type 0
Judges Valid F c budget = Answers answer.Valid F c budget
Judges (Invalid line) F c budget =
    (lits : List Literal) × Answers (answer.Invalid lits) F c budget × (line.items ≡ invalid_line lits)
Judges Unknown F c budget = Answers answer.Unknown F c budget
Judges (RefusedInput k e) F c budget = ⊥
Judges (RefusedText k e) F c budget = ⊥
Judges (RefusedCircuits w) F c budget = IsRefused F c (error_of w)
Judges ReadFault F c budget = ⊥
Judges NoMemory F c budget = Unit {0}

-- IN holds a formula and CERT circuits of which this is true
pub record OfFiles (n : ValidateFiles) (disk : Disk) (P : PrenexFormula → CertificateView → Type 0) : Type 0 where
  pub formula : PrenexFormula
  pub given : CertificateView
  pub is_input : IsFileOf (bytes_at disk n.input) formula
  pub circuits : AreCircuits (bytes_at disk n.cert) given
  pub holds : P formula given

-- what there is to say of the two files; none changes
abbrev pub Says : Validated → ValidateFiles → Option ℕ → Disk → Type 0
Says Valid n budget disk = OfFiles n disk (λ F c. Judges Valid F c budget)
Says (Invalid line) n budget disk = OfFiles n disk (λ F c. Judges (Invalid line) F c budget)
Says Unknown n budget disk = OfFiles n disk (λ F c. Judges Unknown F c budget)
Says (RefusedInput k e) n budget disk = Offence standard (bytes_at disk n.input) k e
Says (RefusedText k e) n budget disk = IsFormulaFile (bytes_at disk n.input) × CircuitsOffence (bytes_at disk n.cert) k e
Says (RefusedCircuits w) n budget disk = OfFiles n disk (λ F c. Judges (RefusedCircuits w) F c budget)
Says ReadFault n budget disk = Unit {0}
Says NoMemory n budget disk = Unit {0}

abbrev pub Validates : Validated → ValidateFiles → Option ℕ → Disk → Option Disk → Type 0
Validates o n budget before after = Says o n budget before × (after ≡ Some before)

-- a budget below the number of branches is given
abbrev pub IsCut : PrenexFormula → CertificateView → Option ℕ → Type 0
IsCut F c budget = IsBelow budget (branches (claim_of F c))

-- one of the four refusals applies
abbrev pub IsUnfit : PrenexFormula → CertificateView → Type 0
IsUnfit F c = (e : ValidateError) × (e ≢ refusal.NoMemory) × IsRefused F c e

-- the circuits are Skolem functions of the formula; they fit and are not; they fit and the budget is too small
abbrev pub AreValid : ValidateFiles → Option ℕ → Disk → Type 0
AreValid n budget disk = OfFiles n disk (λ F c. SkolemOf F (trees_of c) × (¬ IsCut F c budget))

abbrev pub AreInvalid : ValidateFiles → Option ℕ → Disk → Type 0
AreInvalid n budget disk = OfFiles n disk (λ F c. Fits F.prefix c × (¬ SkolemOf F (trees_of c)) × (¬ IsCut F c budget))

abbrev pub AreUndecided : ValidateFiles → Option ℕ → Disk → Type 0
AreUndecided n budget disk = OfFiles n disk (λ F c. Fits F.prefix c × IsCut F c budget)

-- IN holds a formula, and CERT is no text of circuits, or its circuits are refused
abbrev pub AreNoCircuits : ValidateFiles → Disk → Type 0
AreNoCircuits n disk =
    (IsFormulaFile (bytes_at disk n.input) × IsNoCircuits (bytes_at disk n.cert)) ⊎ OfFiles n disk IsUnfit

-- when each status of `validate` comes; no file changes
pub record ValidatesExactly (given : Status) (n : ValidateFiles) (budget : Option ℕ) (before : Disk) (after : Option Disk) : Type 0 where
  pub done : Exactly given status.Done (AreValid n budget before)
  pub invalid : Exactly given status.Invalid (AreInvalid n budget before)
  pub unknown : Exactly given status.Unknown (AreUndecided n budget before)
  pub circuits_refused : Exactly given status.CircuitsRefused (AreNoCircuits n before)
  pub input_refused : Exactly given status.InputRefused (IsNoFormula (bytes_at before n.input))
  pub untouched : after ≡ Some before

-- the command; a budget that is not spent leaves an answer
abbrev pub told : ValidateFiles → Option ℕ → Told
told n budget = record {
  Outcome = Validated;
  status_of = status_of_validated;
  line_of = line_of_validated;
  says = λ o disk after. Validates o n budget disk after;
  gives = λ given disk after. ValidatesExactly given n budget disk after;
  answers = λ disk given.
      (AreValid n budget disk → OrNoMemory given status.Done)
      × (AreInvalid n budget disk → OrNoMemory given status.Invalid)
      × (AreUndecided n budget disk → OrNoMemory given status.Unknown);
  reads = names_read n;
  writes = [];
  reads_at = input_then n.input n.cert;
  writes_at = [];
}
