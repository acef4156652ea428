-- What `rebuild` says and leaves, over the files before and after.
use Rattle.std.specs.Prelude.{◌≡◌, ◌≢◌, ◌⊎◌, ℕ, List, [], ◌∷◌, Option, Some, true}
use Rattle.q_logic.specs.Prelude.{PrenexFormula, CertificateView, trees_of, SkolemOf, UndoEntry}
use Rattle.q_io.specs.Files.{Disk, HoldsBytes, MayHoldFront, bytes_at}
use Rattle.q_aiger.specs.Circuits.{AreCircuits, Offence}
use Rattle.q_aiger.specs.Alike.{IsNoCircuits}
use Rattle.q_aiger.specs.Writing.{IsCanonical}
use Rattle.q_rebuild.specs.Rebuilt.{IsRebuilt}
use Rattle.q_rebuild.specs.Moves.{KeepsMoves}
use Rattle.q_rebuild.specs.Refusals.{IsRefused, IsAccepted}
use Rattle.q_io.specs.declared.error.DeviceError.{DeviceError}
use Rattle.q_io.specs.declared.error.DeviceError.TheVariants as device
use Rattle.q_command.specs.declared.unfit.Unfit.{Unfit}
use Rattle.q_command.specs.declared.unfit.Unfit.TheVariants as unfit
use Rattle.q_command.specs.declared.circuits.CircuitsError.{CircuitsError}
use Rattle.q_command.specs.declared.circuits.CircuitsError.TheVariants as unread
use Rattle.q_command.specs.FirstFaults.{Turn, untold, where_so}
use Rattle.q_command.specs.Names.{ThreeNames, three}
use Rattle.q_command.specs.Texts.{HoldsCircuits, MayHoldCircuits}
use Rattle.q_command.specs.Told.{Told, OrNoMemory}
use Rattle.q_rebuild.specs.declared.error.RebuildError.{RebuildError}
use Rattle.q_rebuild.specs.declared.error.RebuildError.TheVariants as refusal
use Rattle.q_command.specs.Checks.{Checks, IsFileOf, IsNoFormula, IsNoRun, IsUnverified, IsVerified, LogPasses, Exactly, MayCome, turns_and}
use Rattle.q_command.specs.declared.checking.Checked.{Checked}
use Rattle.q_command.specs.declared.outcome.Outcome.TheVariants as outcome
use Rattle.q_command.specs.declared.status.Status.{Status}
use Rattle.q_command.specs.declared.status.Status.TheVariants as status
use Rattle.q_app.specs.RebuiltLines.{status_of_rebuilt, line_of_rebuilt}
use Rattle.q_app.specs.declared.rebuilt.Rebuilt.{Rebuilt}
use Rattle.q_app.specs.declared.rebuilt.Rebuilt.TheVariants.{Written, Unverified, RefusedText, RefusedCircuits, FalseOutput, ReadFault, WriteFault, NoMemory}

-- the names of the five files
pub record FiveNames : Type 0 where
  pub input : List ℕ
  pub output : List ℕ
  pub log : List ℕ
  pub skolem : List ℕ
  pub cert : List ℕ

-- the log of the three files is verified, and leaves this undo list; the fourth file holds these circuits
pub record Brings (n : FiveNames) (disk : Disk) (F G : PrenexFormula) (us : List UndoEntry) (given : CertificateView) : Type 0 where
  pub is_input : IsFileOf (bytes_at disk n.input) F
  pub is_output : IsFileOf (bytes_at disk n.output) G
  pub steps : ℕ
  pub log : LogPasses true (bytes_at disk n.log) F G steps us
  pub circuits : AreCircuits (bytes_at disk n.skolem) given

-- of all that the four files hold this is true
pub record OfCircuits (n : FiveNames) (disk : Disk) (P : PrenexFormula → PrenexFormula → List UndoEntry → CertificateView → Type 0) : Type 0 where
  pub from : PrenexFormula
  pub to : PrenexFormula
  pub undo : List UndoEntry
  pub given : CertificateView
  pub brings : Brings n disk from to undo given
  pub holds : P from to undo given

-- the circuits that are written, with so many gates: they have the stated values, are lawful and small, and are Skolem
-- functions of the formula of IN where the given ones are of that of OUT; what they say in the first rounds is made of what the
-- given ones say there
pub record IsCertificate (n : FiveNames) (gates : ℕ) (F G : PrenexFormula) (us : List UndoEntry) (given : CertificateView) (text : List ℕ) : Type 0 where
  pub made : CertificateView
  pub rebuilt : IsRebuilt F G us given made
  pub moves : KeepsMoves F G us given made
  pub canonical : IsCanonical made gates text

-- the certificate is written whole
abbrev pub IsWhole : ℕ → FiveNames → Disk → Option Disk → Type 0
IsWhole gates n before after =
    OfCircuits n before (λ F G us given. IsAccepted G given ×
    ((text : List ℕ) × IsCertificate n gates F G us given text × HoldsBytes n.cert text before after))

-- a fault or want of memory while it was written
abbrev pub IsPart : FiveNames → Disk → Option Disk → Type 0
IsPart n before after =
    OfCircuits n before (λ F G us given. (gates : ℕ) × (text : List ℕ) × IsCertificate n gates F G us given text × MayHoldFront n.cert text before after)

-- the circuits are refused for this cause
abbrev pub AreRefused : RebuildError → FiveNames → Disk → Type 0
AreRefused e n before = OfCircuits n before (λ F G us given. IsRefused G given e)

-- the reason, as the crate below tells it
abbrev pub error_of : Unfit → RebuildError
error_of (unfit.MissingOutput v) = refusal.MissingOutput v
error_of (unfit.StrangeOutput v) = refusal.StrangeOutput v
error_of (unfit.StrangeInput v) = refusal.StrangeInput v
error_of (unfit.Reads v u) = refusal.Reads v u

-- what there is to say, and what the files hold then
abbrev pub Rebuilds : Rebuilt → FiveNames → Disk → Option Disk → Type 0
Rebuilds (Written g) n before after = IsWhole g n before after
Rebuilds (Unverified o) n before after =
    IsUnverified o × Checks o (bytes_at before n.input) (bytes_at before n.output) (bytes_at before n.log) × (after ≡ Some before)
Rebuilds (RefusedText k c) n before after =
    IsVerified (bytes_at before n.input) (bytes_at before n.output) (bytes_at before n.log) × Offence (bytes_at before n.skolem) k c × (after ≡ Some before)
Rebuilds (RefusedCircuits w) n before after = AreRefused (error_of w) n before × (after ≡ Some before)
Rebuilds FalseOutput n before after = AreRefused refusal.FalseOutput n before × (after ≡ Some before)
Rebuilds ReadFault n before after = after ≡ Some before
Rebuilds WriteFault n before after = IsPart n before after
Rebuilds NoMemory n before after = (after ≡ Some before) ⊎ IsPart n before after

abbrev pub five : List ℕ → List ℕ → List ℕ → List ℕ → List ℕ → FiveNames
five i o l s c = record { input = i; output = o; log = l; skolem = s; cert = c }

-- the names of the files that are read
abbrev pub names_read : FiveNames → List (List ℕ)
names_read n = n.input ∷ n.output ∷ n.log ∷ n.skolem ∷ []

-- SKOLEM is read behind the three files of the log, where the log is verified
abbrev pub three_read : FiveNames → ThreeNames
three_read n = three n.input n.output n.log

abbrev pub skolem_turn : FiveNames → Turn
skolem_turn n = where_so (λ disk. IsVerified (bytes_at disk n.input) (bytes_at disk n.output) (bytes_at disk n.log)) n.skolem

abbrev pub turns_read : FiveNames → List Turn
turns_read n = turns_and (three_read n) (skolem_turn n)

-- the names of the files that are written
abbrev pub names_written : FiveNames → List (List ℕ)
names_written n = n.cert ∷ []

-- reading failed
abbrev pub FaultsReading : Rebuilt → Type 0
FaultsReading r = (r ≡ ReadFault) ⊎ (r ≡ Unverified outcome.ReadFault)

-- an outcome of reading circuits or of carrying them back
abbrev pub IsOfCircuits : Rebuilt → Type 0
IsOfCircuits (Written g) = ⊥
IsOfCircuits (Unverified o) = ⊥
IsOfCircuits (RefusedText k c) = Unit {0}
IsOfCircuits (RefusedCircuits w) = Unit {0}
IsOfCircuits FalseOutput = Unit {0}
IsOfCircuits ReadFault = Unit {0}
IsOfCircuits WriteFault = ⊥
IsOfCircuits NoMemory = Unit {0}

-- the circuits of a file are refused as those of G
abbrev pub Fails : RebuildError → PrenexFormula → List ℕ → Type 0
Fails e G bytes = (given : CertificateView) × AreCircuits bytes given × IsRefused G given e

-- why the circuits of a file are not carried back
abbrev pub CircuitsFail : Rebuilt → PrenexFormula → List ℕ → Type 0
CircuitsFail (Written g) G bytes = ⊥
CircuitsFail (Unverified o) G bytes = ⊥
CircuitsFail (RefusedText k c) G bytes = Offence bytes k c
CircuitsFail (RefusedCircuits w) G bytes = Fails (error_of w) G bytes
CircuitsFail FalseOutput G bytes = Fails refusal.FalseOutput G bytes
CircuitsFail ReadFault G bytes = Unit {0}
CircuitsFail WriteFault G bytes = ⊥
CircuitsFail NoMemory G bytes = Unit {0}

abbrev pub no_circuits : CircuitsError → Rebuilt
no_circuits (unread.Refused k c) = RefusedText k c
no_circuits unread.Fault = ReadFault
no_circuits unread.NoMemory = NoMemory

abbrev pub refused_circuits : RebuildError → Rebuilt
refused_circuits (refusal.MissingOutput v) = RefusedCircuits (unfit.MissingOutput v)
refused_circuits (refusal.StrangeOutput v) = RefusedCircuits (unfit.StrangeOutput v)
refused_circuits (refusal.StrangeInput v) = RefusedCircuits (unfit.StrangeInput v)
refused_circuits (refusal.Reads v u) = RefusedCircuits (unfit.Reads v u)
refused_circuits refusal.FalseOutput = FalseOutput
refused_circuits refusal.NoMemory = NoMemory

abbrev pub failed_write : DeviceError → Rebuilt
failed_write device.Failed = WriteFault
failed_write device.NoMemory = NoMemory

-- the circuits of a file, carried back
abbrev pub AreCarried : Checked → List ℕ → CertificateView → Type 0
AreCarried k bytes made =
    (given : CertificateView) × AreCircuits bytes given × IsAccepted k.to given × IsRebuilt k.from k.to k.undo given made ×
    KeepsMoves k.from k.to k.undo given made

-- what writing the certificate leaves
abbrev pub Puts : Rebuilt → CertificateView → List ℕ → Disk → Option Disk → Type 0
Puts (Written g) made name before after = HoldsCircuits made g name before after
Puts (Unverified o) made name before after = ⊥
Puts (RefusedText k c) made name before after = ⊥
Puts (RefusedCircuits w) made name before after = ⊥
Puts FalseOutput made name before after = ⊥
Puts ReadFault made name before after = ⊥
Puts WriteFault made name before after = MayHoldCircuits made name before after
Puts NoMemory made name before after = (after ≡ Some before) ⊎ MayHoldCircuits made name before after

-- the log is verified, SKOLEM holds circuits, and of the formula of OUT and of these circuits this is true
pub record OfVerified (n : FiveNames) (disk : Disk) (P : PrenexFormula → CertificateView → Type 0) : Type 0 where
  pub verified : IsVerified (bytes_at disk n.input) (bytes_at disk n.output) (bytes_at disk n.log)
  pub to : PrenexFormula
  pub is_output : IsFileOf (bytes_at disk n.output) to
  pub given : CertificateView
  pub circuits : AreCircuits (bytes_at disk n.skolem) given
  pub holds : P to given

-- the circuits are such as the formula of OUT may have
abbrev pub AreFitting : FiveNames → Disk → Type 0
AreFitting n disk = OfVerified n disk IsAccepted

-- their trees are Skolem functions of the formula of OUT
abbrev pub AreSkolem : FiveNames → Disk → Type 0
AreSkolem n disk = OfVerified n disk (λ G given. SkolemOf G (trees_of given))

-- one of the five refusals applies
abbrev pub IsUnfit : PrenexFormula → CertificateView → Type 0
IsUnfit G given = (e : RebuildError) × (e ≢ refusal.NoMemory) × IsRefused G given e

-- the log is verified, and SKOLEM is no text of circuits, or its circuits are refused
abbrev pub AreNoCircuits : FiveNames → Disk → Type 0
AreNoCircuits n disk =
    (IsVerified (bytes_at disk n.input) (bytes_at disk n.output) (bytes_at disk n.log) × IsNoCircuits (bytes_at disk n.skolem))
    ⊎ OfVerified n disk IsUnfit

-- the refusals and faults after which no file has changed
abbrev pub IsUntouched : Status → Type 0
IsUntouched s = (s ≡ status.LogRefused) ⊎ (s ≡ status.InputRefused) ⊎ (s ≡ status.CircuitsRefused) ⊎ (s ≡ status.ReadFault)

-- when each status of `rebuild` comes, and what CERT holds then
pub record RebuildsExactly (answer : Status) (n : FiveNames) (before : Disk) (after : Option Disk) : Type 0 where
  pub done : Exactly answer status.Done (AreFitting n before)
  pub written : answer ≡ status.Done → (gates : ℕ) × IsWhole gates n before after
  pub skolem : AreSkolem n before → (answer ≡ status.Done) ⊎ MayCome answer
  pub log_refused : Exactly answer status.LogRefused (IsNoRun (bytes_at before n.input) (bytes_at before n.output) (bytes_at before n.log))
  pub input_refused : Exactly answer status.InputRefused (IsNoFormula (bytes_at before n.input) ⊎ IsNoFormula (bytes_at before n.output))
  pub circuits_refused : Exactly answer status.CircuitsRefused (AreNoCircuits n before)
  pub untouched : IsUntouched answer → after ≡ Some before
  pub left : (answer ≡ status.WriteFault) ⊎ (answer ≡ status.NoMemory) → (after ≡ Some before) ⊎ IsPart n before after

-- the command; circuits of OUT are carried back where the log leads there and none of the refusals applies
abbrev pub told : FiveNames → Told
told n = record {
  Outcome = Rebuilt;
  status_of = status_of_rebuilt;
  line_of = line_of_rebuilt;
  says = λ o disk after. Rebuilds o n disk after;
  gives = λ given disk after. RebuildsExactly given n disk after;
  answers = λ disk given. AreFitting n disk → OrNoMemory given status.Done;
  reads = names_read n;
  writes = names_written n;
  reads_at = turns_read n;
  writes_at = untold (names_written n);
}
