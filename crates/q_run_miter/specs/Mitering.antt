-- What `miter` says of its files.
use Rattle.std.specs.Prelude.{◌≡◌, ◌≢◌, ◌⊎◌, ◌↔◌, ℕ, List, [], ◌∷◌, length, Option, Some}
use Rattle.q_logic.specs.Prelude.{standard, Matrix, PrenexFormula, CertificateView, trees_of, Holds, Lawful}
use Rattle.q_io.specs.Files.{Disk, bytes_at, HoldsBytes, MayHoldFront}
use Rattle.q_io.specs.declared.error.DeviceError.{DeviceError}
use Rattle.q_io.specs.declared.error.DeviceError.TheVariants as device
use Rattle.q_dimacs.specs.Offences.{Offence}
use Rattle.q_aiger.specs.Circuits.{AreCircuits, Offence as CircuitsOffence}
use Rattle.q_aiger.specs.Alike.{IsNoCircuits}
use Rattle.q_certificate.specs.Prelude.{Fits, IsMisfit}
use Rattle.q_certificate.specs.declared.error.Misfit.{Misfit}
use Rattle.q_certificate.specs.declared.error.Misfit.TheVariants as misfit
use Rattle.q_miter.specs.Miters.{IsCnf}
use Rattle.q_cnf.specs.Cnf.{cnf_text, AreVariables}
use Rattle.q_encode.specs.declared.side.Side.{Side}
use Rattle.q_encode.specs.Sides.{turned, AreFunctionsOf}
use Rattle.q_encode.specs.Sums.{IsSmall}
use Rattle.q_encode.specs.Encoded.{IsMiter}
use Rattle.q_command.specs.Checks.{IsFileOf, IsFormulaFile, IsNoFormula, Exactly, input_then}
use Rattle.q_command.specs.FirstFaults.{untold}
use Rattle.q_command.specs.Told.{Told, OrNoMemory}
use Rattle.q_command.specs.declared.input.InputError.{InputError}
use Rattle.q_command.specs.declared.input.InputError.TheVariants as input
use Rattle.q_command.specs.declared.circuits.CircuitsError.{CircuitsError}
use Rattle.q_command.specs.declared.circuits.CircuitsError.TheVariants as text
use Rattle.q_command.specs.declared.unfit.Unfit.{Unfit}
use Rattle.q_command.specs.declared.unfit.Unfit.TheVariants as unfit
use Rattle.q_command.specs.declared.status.Status.{Status}
use Rattle.q_command.specs.declared.status.Status.TheVariants as status
use Rattle.q_run_miter.specs.declared.names.MiterNames.{MiterNames}
use Rattle.q_run_miter.specs.declared.mitered.Mitered.{Mitered}
use Rattle.q_run_miter.specs.declared.mitered.Mitered.TheVariants.{Written, RefusedInput, RefusedText, RefusedCircuits, TooLarge, ReadFault, WriteFault, NoMemory}
use Rattle.q_run_miter.specs.MiteredLines.{status_of_mitered, line_of_mitered}

-- the names of the three files
pub record MiterFiles : Type 0 where
  pub input : List ℕ
  pub cert : List ℕ
  pub output : List ℕ

abbrev pub files_of : MiterNames → MiterFiles
files_of n = record { input = n.input.now; cert = n.cert.now; output = n.output.now }

-- the names of the files that are read, and of those that are written
abbrev pub names_read : MiterFiles → List (List ℕ)
names_read n = n.input ∷ n.cert ∷ []

abbrev pub names_written : MiterFiles → List (List ℕ)
names_written n = n.output ∷ []

-- the outcome of a failed reading, of a refusal and of a failed write
abbrev pub refused_input : InputError → Mitered
refused_input (input.Refused k c) = RefusedInput k c
refused_input input.Fault = ReadFault
refused_input input.NoMemory = NoMemory

abbrev pub refused_text : CircuitsError → Mitered
refused_text (text.Refused k c) = RefusedText k c
refused_text text.Fault = ReadFault
refused_text text.NoMemory = NoMemory

-- the reason, as the crate below tells it
abbrev pub error_of : Unfit → Misfit
error_of (unfit.MissingOutput v) = misfit.MissingOutput v
error_of (unfit.StrangeOutput v) = misfit.StrangeOutput v
error_of (unfit.StrangeInput v) = misfit.StrangeInput v
error_of (unfit.Reads v u) = misfit.Reads v u

abbrev pub refused_circuits : Misfit → Mitered
refused_circuits (misfit.MissingOutput v) = RefusedCircuits (unfit.MissingOutput v)
refused_circuits (misfit.StrangeOutput v) = RefusedCircuits (unfit.StrangeOutput v)
refused_circuits (misfit.StrangeInput v) = RefusedCircuits (unfit.StrangeInput v)
refused_circuits (misfit.Reads v u) = RefusedCircuits (unfit.Reads v u)
refused_circuits misfit.NoMemory = NoMemory

abbrev pub failed_write : DeviceError → Mitered
failed_write device.Failed = WriteFault
failed_write device.NoMemory = NoMemory

-- the circuits fit, and their miter keeps the limits
abbrev pub AreFitting : Side → PrenexFormula → CertificateView → Type 0
AreFitting side F c = Fits (turned side F.prefix) c × IsSmall side F c

-- they fit, and it may pass a limit
abbrev pub AreTooLarge : Side → PrenexFormula → CertificateView → Type 0
AreTooLarge side F c = Fits (turned side F.prefix) c × (¬ IsSmall side F c)

-- the clauses of circuits that fit
pub record AreMade (side : Side) (F : PrenexFormula) (c : CertificateView) (X : Matrix) : Type 0 where
  pub fits : Fits (turned side F.prefix) c
  pub lawful : Lawful (turned side F.prefix) (trees_of c)
  pub small : IsSmall side F c
  pub miter : IsMiter side F c X

-- why circuits have no miter
abbrev pub CircuitsFail : Mitered → Side → PrenexFormula → CertificateView → Type 0
CircuitsFail (Written n) side F c = ⊥
CircuitsFail (RefusedInput k e) side F c = ⊥
CircuitsFail (RefusedText k e) side F c = ⊥
CircuitsFail (RefusedCircuits w) side F c = IsMisfit (turned side F.prefix) c (error_of w)
CircuitsFail TooLarge side F c = AreTooLarge side F c
CircuitsFail ReadFault side F c = ⊥
CircuitsFail WriteFault side F c = ⊥
CircuitsFail NoMemory side F c = Unit {0}

-- IN holds a formula and CERT circuits of which this is true
pub record OfFiles (n : MiterFiles) (disk : Disk) (P : PrenexFormula → CertificateView → Type 0) : Type 0 where
  pub formula : PrenexFormula
  pub given : CertificateView
  pub is_input : IsFileOf (bytes_at disk n.input) formula
  pub circuits : AreCircuits (bytes_at disk n.cert) given
  pub holds : P formula given

-- the bytes are the canonical text of the clauses, and a formula file: its formula has these clauses and existentials alone, and is
-- false exactly where the circuits are functions of their side
pub record IsDecided (side : Side) (F : PrenexFormula) (c : CertificateView) (X : Matrix) : Type 0 where
  pub made : AreMade side F c X
  pub formula : PrenexFormula
  pub file : IsFileOf (cnf_text X) formula
  pub cnf : IsCnf X formula
  pub decides : (AreFunctionsOf side F (trees_of c) ↔ ¬ Holds formula) × (Holds formula ↔ ¬ AreFunctionsOf side F (trees_of c))

-- OUT holds the text of so many clauses
abbrev pub IsWhole : ℕ → Side → MiterFiles → Disk → Option Disk → Type 0
IsWhole clauses side n before after =
    OfFiles n before (λ F c. (X : Matrix) × IsDecided side F c X × (clauses ≡ length X) × HoldsBytes n.output (cnf_text X) before after)

-- a fault or want of memory while it was written
abbrev pub IsPart : Side → MiterFiles → Disk → Option Disk → Type 0
IsPart side n before after =
    OfFiles n before (λ F c. (X : Matrix) × AreMade side F c X × MayHoldFront n.output (cnf_text X) before after)

-- what there is to say, and what the files hold then
abbrev pub Miters : Mitered → Side → MiterFiles → Disk → Option Disk → Type 0
Miters (Written k) side n before after = IsWhole k side n before after
Miters (RefusedInput k e) side n before after = Offence standard (bytes_at before n.input) k e × (after ≡ Some before)
Miters (RefusedText k e) side n before after =
    IsFormulaFile (bytes_at before n.input) × CircuitsOffence (bytes_at before n.cert) k e × (after ≡ Some before)
Miters (RefusedCircuits w) side n before after =
    OfFiles n before (λ F c. IsMisfit (turned side F.prefix) c (error_of w)) × (after ≡ Some before)
Miters TooLarge side n before after = OfFiles n before (AreTooLarge side) × (after ≡ Some before)
Miters ReadFault side n before after = after ≡ Some before
Miters WriteFault side n before after = IsPart side n before after
Miters NoMemory side n before after = (after ≡ Some before) ⊎ IsPart side n before after

-- what writing the clauses leaves
abbrev pub Puts : Mitered → Matrix → List ℕ → Disk → Option Disk → Type 0
Puts (Written k) X name before after = AreVariables X × (k ≡ length X) × HoldsBytes name (cnf_text X) before after
Puts (RefusedInput k e) X name before after = ⊥
Puts (RefusedText k e) X name before after = ⊥
Puts (RefusedCircuits w) X name before after = ⊥
Puts TooLarge X name before after = ⊥
Puts ReadFault X name before after = ⊥
Puts WriteFault X name before after = MayHoldFront name (cnf_text X) before after
Puts NoMemory X name before after = (after ≡ Some before) ⊎ MayHoldFront name (cnf_text X) before after

-- one of the four refusals applies
abbrev pub IsUnfit : Side → PrenexFormula → CertificateView → Type 0
IsUnfit side F c = (e : Misfit) × (e ≢ misfit.NoMemory) × IsMisfit (turned side F.prefix) c e

-- IN holds a formula, and CERT is no text of circuits, or its circuits are refused or too large
abbrev pub AreNoCircuits : Side → MiterFiles → Disk → Type 0
AreNoCircuits side n disk =
    (IsFormulaFile (bytes_at disk n.input) × IsNoCircuits (bytes_at disk n.cert)) ⊎ OfFiles n disk (IsUnfit side) ⊎
    OfFiles n disk (AreTooLarge side)

-- the refusals and faults after which no file has changed
abbrev pub IsUntouched : Status → Type 0
IsUntouched s = (s ≡ status.InputRefused) ⊎ (s ≡ status.CircuitsRefused) ⊎ (s ≡ status.ReadFault)

-- when each status of `miter` comes, and what OUT holds then
pub record MitersExactly (given : Status) (side : Side) (n : MiterFiles) (before : Disk) (after : Option Disk) : Type 0 where
  pub done : Exactly given status.Done (OfFiles n before (AreFitting side))
  pub written : given ≡ status.Done → (clauses : ℕ) × IsWhole clauses side n before after
  pub circuits_refused : Exactly given status.CircuitsRefused (AreNoCircuits side n before)
  pub input_refused : Exactly given status.InputRefused (IsNoFormula (bytes_at before n.input))
  pub untouched : IsUntouched given → after ≡ Some before
  pub left : (given ≡ status.WriteFault) ⊎ (given ≡ status.NoMemory) → (after ≡ Some before) ⊎ IsPart side n before after

-- the command; circuits that fit and whose miter keeps the limits are written
abbrev pub told : MiterFiles → Side → Told
told n side = record {
  Outcome = Mitered;
  status_of = status_of_mitered;
  line_of = line_of_mitered;
  says = λ o disk after. Miters o side n disk after;
  gives = λ given disk after. MitersExactly given side n disk after;
  answers = λ disk given. OfFiles n disk (AreFitting side) → OrNoMemory given status.Done;
  reads = names_read n;
  writes = names_written n;
  reads_at = input_then n.input n.cert;
  writes_at = untold (names_written n);
}
