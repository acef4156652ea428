-- What `refute` says and leaves, over the files before and after.
use Rattle.std.specs.Prelude.{◌≡◌, ◌≢◌, ◌⊎◌, ℕ, List, [], ◌∷◌, Option, Some}
use Rattle.q_logic.specs.Prelude.{PrenexFormula, CertificateView, trees_of}
use Rattle.q_logic.specs.Herbrands.{HerbrandOf}
use Rattle.q_logic.specs.Reversals.{Reversal, Reversals, NoneExtended}
use Rattle.q_io.specs.Files.{Disk, HoldsBytes, MayHoldFront, bytes_at}
use Rattle.q_io.specs.declared.error.DeviceError.{DeviceError}
use Rattle.q_io.specs.declared.error.DeviceError.TheVariants as device
use Rattle.q_aiger.specs.Circuits.{AreCircuits, Offence}
use Rattle.q_aiger.specs.Alike.{IsNoCircuits}
use Rattle.q_aiger.specs.Writing.{IsCanonical}
use Rattle.q_herbrand.specs.Refuted.{IsRefuted}
use Rattle.q_herbrand.specs.Refusals.{IsRefused, IsAccepted}
use Rattle.q_herbrand.specs.declared.error.HerbrandError.{HerbrandError}
use Rattle.q_herbrand.specs.declared.error.HerbrandError.TheVariants as refusal
use Rattle.q_command.specs.Checks.{Checks, IsFileOf, IsNoFormula, IsNoRun, IsRunLog, IsUnverified, Exactly, MayCome, turns_and}
use Rattle.q_command.specs.FirstFaults.{Turn, untold, where_so}
use Rattle.q_command.specs.Logs.{Entry, steps_of}
use Rattle.q_command.specs.Names.{ThreeNames, three}
use Rattle.q_command.specs.Texts.{HoldsCircuits, MayHoldCircuits}
use Rattle.q_command.specs.Told.{Told, OrNoMemory}
use Rattle.q_command.specs.declared.checking.Checked.{Checked}
use Rattle.q_command.specs.declared.unfit.Unfit.{Unfit}
use Rattle.q_command.specs.declared.unfit.Unfit.TheVariants as unfit
use Rattle.q_command.specs.declared.circuits.CircuitsError.{CircuitsError}
use Rattle.q_command.specs.declared.circuits.CircuitsError.TheVariants as unread
use Rattle.q_command.specs.declared.outcome.Outcome.TheVariants as outcome
use Rattle.q_command.specs.declared.status.Status.{Status}
use Rattle.q_command.specs.declared.status.Status.TheVariants as status
use Rattle.q_run_refute.specs.Extended.{FirstExtended}
use Rattle.q_run_refute.specs.RefutedLines.{status_of_refuted, line_of_refuted}
use Rattle.q_run_refute.specs.declared.names.RefuteNames.{RefuteNames}
use Rattle.q_run_refute.specs.declared.reversing.Unreversed.{Unreversed}
use Rattle.q_run_refute.specs.declared.reversing.Unreversed.TheVariants as reversing
use Rattle.q_run_refute.specs.declared.refuted.Refuted.{Refuted}
use Rattle.q_run_refute.specs.declared.refuted.Refuted.TheVariants.{Written, Unverified, Extended, RefusedText, RefusedCircuits, TrueOutput, ReadFault, WriteFault, NoMemory}

-- the names of the five files
pub record RefuteFiles : Type 0 where
  pub input : List ℕ
  pub output : List ℕ
  pub log : List ℕ
  pub herbrand : List ℕ
  pub cert : List ℕ

abbrev pub files_of : RefuteNames → RefuteFiles
files_of n = record {
  input = n.input.now;
  output = n.output.now;
  log = n.log.now;
  herbrand = n.herbrand.now;
  cert = n.cert.now;
}

-- the names of the files that are read
abbrev pub names_read : RefuteFiles → List (List ℕ)
names_read n = n.input ∷ n.output ∷ n.log ∷ n.herbrand ∷ []

-- the names of the files that are written
abbrev pub names_written : RefuteFiles → List (List ℕ)
names_written n = n.cert ∷ []

-- IN and OUT hold formulas, and LOG leads from one to the other by these steps
pub record OfRun (n : RefuteFiles) (disk : Disk) (P : PrenexFormula → List Entry → PrenexFormula → Type 0) : Type 0 where
  pub from : PrenexFormula
  pub to : PrenexFormula
  pub entries : List Entry
  pub is_input : IsFileOf (bytes_at disk n.input) from
  pub is_output : IsFileOf (bytes_at disk n.output) to
  pub log : IsRunLog (bytes_at disk n.log) from to entries
  pub holds : P from entries to

-- the log is verified, and none of its steps is an extended drop
abbrev pub IsPlainRun : RefuteFiles → Disk → Type 0
IsPlainRun n disk = OfRun n disk (λ F es G. NoneExtended F (steps_of es))

-- HERBRAND is read behind the three files of the log, where the log is such
abbrev pub three_read : RefuteFiles → ThreeNames
three_read n = three n.input n.output n.log

abbrev pub herbrand_turn : RefuteFiles → Turn
herbrand_turn n = where_so (IsPlainRun n) n.herbrand

abbrev pub turns_read : RefuteFiles → List Turn
turns_read n = turns_and (three_read n) (herbrand_turn n)

-- the log is verified, and its first extended drop begins on this line
abbrev pub IsExtendedAt : ℕ → RefuteFiles → Disk → Type 0
IsExtendedAt line n disk = OfRun n disk (λ F es G. FirstExtended F es line)

-- the log is verified, and some step is an extended drop
abbrev pub HasExtended : RefuteFiles → Disk → Type 0
HasExtended n disk = (line : ℕ) × IsExtendedAt line n disk

-- the log leads from F to G, its steps leave these reversals, and HERBRAND holds these circuits
pub record Brings (n : RefuteFiles) (disk : Disk) (F G : PrenexFormula) (rs : List Reversal) (given : CertificateView) : Type 0 where
  pub entries : List Entry
  pub is_input : IsFileOf (bytes_at disk n.input) F
  pub is_output : IsFileOf (bytes_at disk n.output) G
  pub log : IsRunLog (bytes_at disk n.log) F G entries
  pub reversals : Reversals F (steps_of entries) rs
  pub circuits : AreCircuits (bytes_at disk n.herbrand) given

-- of all that the four files hold this is true
pub record OfCircuits (n : RefuteFiles) (disk : Disk) (P : PrenexFormula → PrenexFormula → List Reversal → CertificateView → Type 0) : Type 0 where
  pub from : PrenexFormula
  pub to : PrenexFormula
  pub reversals : List Reversal
  pub given : CertificateView
  pub brings : Brings n disk from to reversals given
  pub holds : P from to reversals given

-- the circuits that are written, with so many gates: they have the stated values, are lawful and small, and are Herbrand
-- functions of the formula of IN where the given ones are of that of OUT
pub record IsCertificate (gates : ℕ) (F G : PrenexFormula) (rs : List Reversal) (given : CertificateView) (text : List ℕ) : Type 0 where
  pub made : CertificateView
  pub refuted : IsRefuted F G rs given made
  pub canonical : IsCanonical made gates text

-- the certificate is written whole
abbrev pub IsWhole : ℕ → RefuteFiles → Disk → Option Disk → Type 0
IsWhole gates n before after =
    OfCircuits n before (λ F G rs given. IsAccepted G given ×
    ((text : List ℕ) × IsCertificate gates F G rs given text × HoldsBytes n.cert text before after))

-- a fault or want of memory while it was written
abbrev pub IsPart : RefuteFiles → Disk → Option Disk → Type 0
IsPart n before after =
    OfCircuits n before (λ F G rs given.
    (gates : ℕ) × (text : List ℕ) × IsCertificate gates F G rs given text × MayHoldFront n.cert text before after)

-- the circuits are refused for this cause
abbrev pub AreRefused : HerbrandError → RefuteFiles → Disk → Type 0
AreRefused e n before = OfCircuits n before (λ F G rs given. IsRefused G given e)

-- the reason, as the crate below tells it
abbrev pub error_of : Unfit → HerbrandError
error_of (unfit.MissingOutput v) = refusal.MissingOutput v
error_of (unfit.StrangeOutput v) = refusal.StrangeOutput v
error_of (unfit.StrangeInput v) = refusal.StrangeInput v
error_of (unfit.Reads v u) = refusal.Reads v u

-- what there is to say, and what the files hold then
abbrev pub Refutes : Refuted → RefuteFiles → Disk → Option Disk → Type 0
Refutes (Written g) n before after = IsWhole g n before after
Refutes (Unverified o) n before after =
    IsUnverified o × Checks o (bytes_at before n.input) (bytes_at before n.output) (bytes_at before n.log) ×
    (after ≡ Some before)
Refutes (Extended line) n before after = IsExtendedAt line n before × (after ≡ Some before)
Refutes (RefusedText k c) n before after =
    IsPlainRun n before × Offence (bytes_at before n.herbrand) k c × (after ≡ Some before)
Refutes (RefusedCircuits w) n before after = AreRefused (error_of w) n before × (after ≡ Some before)
Refutes TrueOutput n before after = AreRefused refusal.TrueOutput n before × (after ≡ Some before)
Refutes ReadFault n before after = after ≡ Some before
Refutes WriteFault n before after = IsPart n before after
Refutes NoMemory n before after = (after ≡ Some before) ⊎ IsPart n before after

-- reading failed
abbrev pub FaultsReading : Refuted → Type 0
FaultsReading r = (r ≡ ReadFault) ⊎ (r ≡ Unverified outcome.ReadFault)

-- an outcome of reading circuits or of carrying them back
abbrev pub IsOfCircuits : Refuted → Type 0
IsOfCircuits (Written g) = ⊥
IsOfCircuits (Unverified o) = ⊥
IsOfCircuits (Extended n) = ⊥
IsOfCircuits (RefusedText k c) = Unit {0}
IsOfCircuits (RefusedCircuits w) = Unit {0}
IsOfCircuits TrueOutput = Unit {0}
IsOfCircuits ReadFault = Unit {0}
IsOfCircuits WriteFault = ⊥
IsOfCircuits NoMemory = Unit {0}

-- the circuits of a file are refused as those of G
abbrev pub Fails : HerbrandError → PrenexFormula → List ℕ → Type 0
Fails e G bytes = (given : CertificateView) × AreCircuits bytes given × IsRefused G given e

-- why the circuits of a file are not carried back
abbrev pub CircuitsFail : Refuted → PrenexFormula → List ℕ → Type 0
CircuitsFail (Written g) G bytes = ⊥
CircuitsFail (Unverified o) G bytes = ⊥
CircuitsFail (Extended n) G bytes = ⊥
CircuitsFail (RefusedText k c) G bytes = Offence bytes k c
CircuitsFail (RefusedCircuits w) G bytes = Fails (error_of w) G bytes
CircuitsFail TrueOutput G bytes = Fails refusal.TrueOutput G bytes
CircuitsFail ReadFault G bytes = Unit {0}
CircuitsFail WriteFault G bytes = ⊥
CircuitsFail NoMemory G bytes = Unit {0}

abbrev pub no_circuits : CircuitsError → Refuted
no_circuits (unread.Refused k c) = RefusedText k c
no_circuits unread.Fault = ReadFault
no_circuits unread.NoMemory = NoMemory

abbrev pub refused_circuits : HerbrandError → Refuted
refused_circuits (refusal.MissingOutput v) = RefusedCircuits (unfit.MissingOutput v)
refused_circuits (refusal.StrangeOutput v) = RefusedCircuits (unfit.StrangeOutput v)
refused_circuits (refusal.StrangeInput v) = RefusedCircuits (unfit.StrangeInput v)
refused_circuits (refusal.Reads v e) = RefusedCircuits (unfit.Reads v e)
refused_circuits refusal.TrueOutput = TrueOutput
refused_circuits refusal.NoMemory = NoMemory

abbrev pub not_reversed : Unreversed → Refuted
not_reversed (reversing.Extended line) = Extended line
not_reversed reversing.NoMemory = NoMemory

abbrev pub failed_write : DeviceError → Refuted
failed_write device.Failed = WriteFault
failed_write device.NoMemory = NoMemory

-- the circuits of a file, carried back
abbrev pub AreCarried : Checked → List Reversal → List ℕ → CertificateView → Type 0
AreCarried k rs bytes made =
    (given : CertificateView) × AreCircuits bytes given × IsAccepted k.to given × IsRefuted k.from k.to rs given made

-- what writing the certificate leaves
abbrev pub Puts : Refuted → CertificateView → List ℕ → Disk → Option Disk → Type 0
Puts (Written g) made name before after = HoldsCircuits made g name before after
Puts (Unverified o) made name before after = ⊥
Puts (Extended n) made name before after = ⊥
Puts (RefusedText k c) made name before after = ⊥
Puts (RefusedCircuits w) made name before after = ⊥
Puts TrueOutput made name before after = ⊥
Puts ReadFault made name before after = ⊥
Puts WriteFault made name before after = MayHoldCircuits made name before after
Puts NoMemory made name before after = (after ≡ Some before) ⊎ MayHoldCircuits made name before after

-- the log is verified without an extended drop, HERBRAND holds circuits, and of the formula of OUT and of these circuits
-- this is true
pub record OfPlainRun (n : RefuteFiles) (disk : Disk) (P : PrenexFormula → CertificateView → Type 0) : Type 0 where
  pub run : IsPlainRun n disk
  pub given : CertificateView
  pub circuits : AreCircuits (bytes_at disk n.herbrand) given
  pub fits : P run.to given

-- the circuits are such as the formula of OUT may have
abbrev pub AreFitting : RefuteFiles → Disk → Type 0
AreFitting n disk = OfPlainRun n disk IsAccepted

-- their trees are Herbrand functions of the formula of OUT
abbrev pub AreHerbrand : RefuteFiles → Disk → Type 0
AreHerbrand n disk = OfPlainRun n disk (λ G given. HerbrandOf G (trees_of given))

-- one of the five refusals applies
abbrev pub IsUnfit : PrenexFormula → CertificateView → Type 0
IsUnfit G given = (e : HerbrandError) × (e ≢ refusal.NoMemory) × IsRefused G given e

-- the log is verified without an extended drop, and HERBRAND is no text of circuits, or its circuits are refused
abbrev pub AreNoCircuits : RefuteFiles → Disk → Type 0
AreNoCircuits n disk = (IsPlainRun n disk × IsNoCircuits (bytes_at disk n.herbrand)) ⊎ OfPlainRun n disk IsUnfit

-- the refusals and faults after which no file has changed
abbrev pub IsUntouched : Status → Type 0
IsUntouched s =
    (s ≡ status.LogRefused) ⊎ (s ≡ status.InputRefused) ⊎ (s ≡ status.Extended) ⊎ (s ≡ status.CircuitsRefused) ⊎
    (s ≡ status.ReadFault)

-- when each status of `refute` comes, and what CERT holds then
pub record RefutesExactly (given : Status) (n : RefuteFiles) (before : Disk) (after : Option Disk) : Type 0 where
  pub done : Exactly given status.Done (AreFitting n before)
  pub written : given ≡ status.Done → (gates : ℕ) × IsWhole gates n before after
  pub herbrand : AreHerbrand n before → (given ≡ status.Done) ⊎ MayCome given
  pub log_refused : Exactly given status.LogRefused (IsNoRun (bytes_at before n.input) (bytes_at before n.output) (bytes_at before n.log))
  pub input_refused : Exactly given status.InputRefused (IsNoFormula (bytes_at before n.input) ⊎ IsNoFormula (bytes_at before n.output))
  pub extended : Exactly given status.Extended (HasExtended n before)
  pub circuits_refused : Exactly given status.CircuitsRefused (AreNoCircuits n before)
  pub untouched : IsUntouched given → after ≡ Some before
  pub left : (given ≡ status.WriteFault) ⊎ (given ≡ status.NoMemory) → (after ≡ Some before) ⊎ IsPart n before after

-- the command; a verified log with fitting circuits is carried back, and one with an extended drop is not
abbrev pub told : RefuteFiles → Told
told n = record {
  Outcome = Refuted;
  status_of = status_of_refuted;
  line_of = line_of_refuted;
  says = λ o disk after. Refutes o n disk after;
  gives = λ given disk after. RefutesExactly given n disk after;
  answers = λ disk given.
      (AreFitting n disk → OrNoMemory given status.Done) × (HasExtended n disk → OrNoMemory given status.Extended);
  reads = names_read n;
  writes = names_written n;
  reads_at = turns_read n;
  writes_at = untold (names_written n);
}
