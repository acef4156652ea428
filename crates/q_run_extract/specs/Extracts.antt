-- What `extract` says and leaves, over the files before and after.
use Rattle.std.specs.Prelude.{◌≡◌, ◌⊎◌, ℕ, List, [], ◌∷◌, Option, Some, None}
use Rattle.q_logic.specs.Prelude.{PrenexFormula, CertificateView, trees_of, SkolemOf, Holds, standard}
use Rattle.q_logic.specs.Herbrands.{HerbrandOf}
use Rattle.q_logic.specs.Exchanging.{exchanged}
use Rattle.q_io.specs.Files.{Disk, bytes_at}
use Rattle.q_io.specs.declared.error.DeviceError.{DeviceError}
use Rattle.q_io.specs.declared.error.DeviceError.TheVariants as device
use Rattle.q_dimacs.specs.Offences.{Offence as InputOffence}
use Rattle.q_qrp.specs.Lines.{Proof}
use Rattle.q_qrp.specs.Offences.{TraceOf, Offence}
use Rattle.q_qrp.specs.declared.trace.Verdict.{Verdict}
use Rattle.q_qrp.specs.declared.trace.Verdict.TheVariants as verdict
use Rattle.q_derive.specs.Traces.{IsTermTrace, IsClauseTrace}
use Rattle.q_resolve.specs.Judged.{entries_of, IsMadeFor, IsFirstFault, IsCertified, IsRefuted}
use Rattle.q_resolve.specs.declared.leaves.Owner.TheVariants as owner
use Rattle.q_resolve.specs.declared.judged.Judged.{Judged}
use Rattle.q_command.specs.Checks.{IsFileOf, IsNoFormula, Exactly, input_then}
use Rattle.q_command.specs.Texts.{HoldsCircuits, MayHoldCircuits}
use Rattle.q_command.specs.FirstFaults.{untold}
use Rattle.q_command.specs.Told.{Told, OrNoMemory}
use Rattle.q_command.specs.declared.input.InputError.{InputError}
use Rattle.q_command.specs.declared.input.InputError.TheVariants as unread
use Rattle.q_command.specs.declared.status.Status.{Status}
use Rattle.q_command.specs.declared.status.Status.TheVariants as status
use Rattle.q_run_extract.specs.declared.names.ExtractNames.{ExtractNames}
use Rattle.q_run_extract.specs.declared.trace_file.TraceFault.{TraceFault}
use Rattle.q_run_extract.specs.declared.trace_file.TraceFault.TheVariants as untraced
use Rattle.q_run_extract.specs.declared.extract.Claim.{Claim}
use Rattle.q_run_extract.specs.declared.extract.Claim.TheVariants as claim
use Rattle.q_run_extract.specs.declared.extracted.Extracted.{Extracted}
use Rattle.q_run_extract.specs.declared.extracted.Extracted.TheVariants as outcome
use Rattle.q_run_extract.specs.ExtractedLines.{status_of_extracted, line_of_extracted}

-- the names of the three files
pub record ExtractFiles : Type 0 where
  pub input : List ℕ
  pub trace : List ℕ
  pub cert : List ℕ

abbrev pub files_of : ExtractNames → ExtractFiles
files_of n = record { input = n.input.now; trace = n.trace.now; cert = n.cert.now }

-- the names of the files that are read
abbrev pub names_read : ExtractFiles → List (List ℕ)
names_read n = n.input ∷ n.trace ∷ []

-- the names of the files that are written
abbrev pub names_written : ExtractFiles → List (List ℕ)
names_written n = n.cert ∷ []

-- the bytes are a trace: up to its verdict it has at most 2^40 of them
abbrev pub IsTraceOf : List ℕ → Proof → Type 0
IsTraceOf bytes p = TraceOf 1099511627776 bytes p

-- IN holds a formula and TRACE a trace, of which this is true
pub record OfFiles (n : ExtractFiles) (disk : Disk) (P : PrenexFormula → Proof → Type 0) : Type 0 where
  pub formula : PrenexFormula
  pub proof : Proof
  pub is_input : IsFileOf (bytes_at disk n.input) formula
  pub is_trace : IsTraceOf (bytes_at disk n.trace) proof
  pub holds : P formula proof

-- the trace says that the formula is true, and proves it by term resolution, maybe long-distance
abbrev pub ProvesTrue : PrenexFormula → Proof → Type 0
ProvesTrue F p = (p.verdict ≡ verdict.Sat) × IsTermTrace F (entries_of p.lines)

-- the trace says that the formula is false, and refutes it by Q-resolution, maybe long-distance
abbrev pub ProvesFalse : PrenexFormula → Proof → Type 0
ProvesFalse F p = (p.verdict ≡ verdict.Unsat) × IsClauseTrace F (entries_of p.lines)

-- the trace says that the solver does not know
abbrev pub SaysUnknown : PrenexFormula → Proof → Type 0
SaysUnknown F p = p.verdict ≡ verdict.Unknown

-- the trace says more than it proves
abbrev pub ProvesNothing : PrenexFormula → Proof → Type 0
ProvesNothing F p =
    ((p.verdict ≡ verdict.Sat) × ¬ IsTermTrace F (entries_of p.lines)) ⊎
    ((p.verdict ≡ verdict.Unsat) × ¬ IsClauseTrace F (entries_of p.lines))

-- and what is wrong with it first stands on this line
abbrev pub FailsAt : ℕ → ℕ → PrenexFormula → Proof → Type 0
FailsAt line cause F p =
    ((p.verdict ≡ verdict.Sat) × ¬ IsTermTrace F (entries_of p.lines) × IsFirstFault owner.Exists F p line cause) ⊎
    ((p.verdict ≡ verdict.Unsat) × ¬ IsClauseTrace F (entries_of p.lines) ×
    IsFirstFault owner.Forall F p line cause)

-- Skolem functions of the formula: circuits of its existentials, each over universals before it
abbrev pub AreSkolem : PrenexFormula → CertificateView → Type 0
AreSkolem F made = IsMadeFor F.prefix made × SkolemOf F (trees_of made)

-- Herbrand functions of the formula: circuits of its universals, each over existentials before it
abbrev pub AreHerbrand : PrenexFormula → CertificateView → Type 0
AreHerbrand F made = IsMadeFor (exchanged F.prefix) made × HerbrandOf F (trees_of made)

-- what a claim asks of the trace, and of circuits
abbrev pub said : Claim → Verdict
said claim.True = verdict.Sat
said claim.False = verdict.Unsat

abbrev pub Proves : Claim → PrenexFormula → Proof → Type 0
Proves claim.True F p = ProvesTrue F p
Proves claim.False F p = ProvesFalse F p

abbrev pub Show : Claim → PrenexFormula → CertificateView → Type 0
Show claim.True F made = AreSkolem F made
Show claim.False F made = AreHerbrand F made

-- the claim is proved, and the file of this name holds circuits that show it, with so many gates
abbrev pub Writes : Claim → ℕ → PrenexFormula → Proof → List ℕ → Disk → Option Disk → Type 0
Writes c gates F p name before after =
    Proves c F p × ((made : CertificateView) × Show c F made × HoldsCircuits made gates name before after)

-- the same, where the file may hold a front of their text
abbrev pub WritesPart : PrenexFormula → Proof → List ℕ → Disk → Option Disk → Type 0
WritesPart F p name before after =
    (c : Claim) × Proves c F p × ((made : CertificateView) × Show c F made × MayHoldCircuits made name before after)

-- what comes of a formula and a trace, and what the file of this name holds then
abbrev pub Settles : Extracted → PrenexFormula → Proof → List ℕ → Disk → Option Disk → Type 0
Settles (outcome.True g) F p name before after = Writes claim.True g F p name before after
Settles (outcome.False g) F p name before after = Writes claim.False g F p name before after
Settles outcome.Unknown F p name before after = SaysUnknown F p × (after ≡ Some before)
Settles (outcome.RefusedTrace k c) F p name before after = FailsAt k c F p × (after ≡ Some before)
Settles (outcome.RefusedInput k c) F p name before after = ⊥
Settles outcome.ReadFault F p name before after = ⊥
Settles outcome.WriteFault F p name before after = WritesPart F p name before after
Settles outcome.NoMemory F p name before after = (after ≡ Some before) ⊎ WritesPart F p name before after

-- circuits are written whole
abbrev pub IsTrue : ℕ → ExtractFiles → Disk → Option Disk → Type 0
IsTrue gates n before after = OfFiles n before (λ F p. Writes claim.True gates F p n.cert before after)

abbrev pub IsFalse : ℕ → ExtractFiles → Disk → Option Disk → Type 0
IsFalse gates n before after = OfFiles n before (λ F p. Writes claim.False gates F p n.cert before after)

-- a fault or want of memory while they were written
abbrev pub IsPart : ExtractFiles → Disk → Option Disk → Type 0
IsPart n before after = OfFiles n before (λ F p. WritesPart F p n.cert before after)

-- IN holds a formula, and the first offence of TRACE is this
abbrev pub OffendsAt : ℕ → ℕ → ExtractFiles → Disk → Type 0
OffendsAt line cause n disk = (F : PrenexFormula) × IsFileOf (bytes_at disk n.input) F × Offence 1099511627776 (bytes_at disk n.trace) line cause

-- IN holds a formula, and TRACE is no trace
abbrev pub IsNoTrace : ExtractFiles → Disk → Type 0
IsNoTrace n disk = (F : PrenexFormula) × IsFileOf (bytes_at disk n.input) F × ((p : Proof) → ¬ IsTraceOf (bytes_at disk n.trace) p)

-- what there is to say, and what the files hold then
abbrev pub Extracts : Extracted → ExtractFiles → Disk → Option Disk → Type 0
Extracts (outcome.True g) n before after = IsTrue g n before after
Extracts (outcome.False g) n before after = IsFalse g n before after
Extracts outcome.Unknown n before after = OfFiles n before SaysUnknown × (after ≡ Some before)
Extracts (outcome.RefusedTrace k c) n before after = (OffendsAt k c n before ⊎ OfFiles n before (FailsAt k c)) × (after ≡ Some before)
Extracts (outcome.RefusedInput k c) n before after = InputOffence standard (bytes_at before n.input) k c × (after ≡ Some before)
Extracts outcome.ReadFault n before after = after ≡ Some before
Extracts outcome.WriteFault n before after = IsPart n before after
Extracts outcome.NoMemory n before after = (after ≡ Some before) ⊎ IsPart n before after

-- the files prove the formula true; false; the solver did not know; the trace is none, or proves nothing
abbrev pub AreTrue : ExtractFiles → Disk → Type 0
AreTrue n disk = OfFiles n disk ProvesTrue

abbrev pub AreFalse : ExtractFiles → Disk → Type 0
AreFalse n disk = OfFiles n disk ProvesFalse

abbrev pub AreUnknown : ExtractFiles → Disk → Type 0
AreUnknown n disk = OfFiles n disk SaysUnknown

abbrev pub AreNoProof : ExtractFiles → Disk → Type 0
AreNoProof n disk = IsNoTrace n disk ⊎ OfFiles n disk ProvesNothing

-- of the formula of IN this is true
abbrev pub OfInput : ExtractFiles → Disk → (PrenexFormula → Type 0) → Type 0
OfInput n disk P = (F : PrenexFormula) → IsFileOf (bytes_at disk n.input) F → P F

-- CERT holds such circuits, and no other file changed
abbrev pub Leaves : (CertificateView → Type 0) → ExtractFiles → Disk → Option Disk → Type 0
Leaves P n before after = (gates : ℕ) × (made : CertificateView) × P made × HoldsCircuits made gates n.cert before after

-- the statuses after which no file has changed
abbrev pub IsUntouched : Status → Type 0
IsUntouched s =
    (s ≡ status.Unknown) ⊎ (s ≡ status.LogRefused) ⊎ (s ≡ status.InputRefused) ⊎ (s ≡ status.ReadFault)

-- when each status of `extract` comes, and what CERT holds then
pub record ExtractsExactly (given : Status) (n : ExtractFiles) (before : Disk) (after : Option Disk) : Type 0 where
  pub proved : Exactly given status.True (AreTrue n before)
  pub refuted : Exactly given status.False (AreFalse n before)
  pub unknown : Exactly given status.Unknown (AreUnknown n before)
  pub refused : Exactly given status.LogRefused (AreNoProof n before)
  pub input_refused : Exactly given status.InputRefused (IsNoFormula (bytes_at before n.input))
  pub skolem : given ≡ status.True → OfInput n before (λ F. Holds F × Leaves (AreSkolem F) n before after)
  pub herbrand : given ≡ status.False → OfInput n before (λ F. ¬ Holds F × Leaves (AreHerbrand F) n before after)
  pub untouched : IsUntouched given → after ≡ Some before
  pub left : (given ≡ status.WriteFault) ⊎ (given ≡ status.NoMemory) → (after ≡ Some before) ⊎ IsPart n before after

-- the outcome of a failed reading
abbrev pub refused_input : InputError → Extracted
refused_input (unread.Refused k c) = outcome.RefusedInput k c
refused_input unread.Fault = outcome.ReadFault
refused_input unread.NoMemory = outcome.NoMemory

abbrev pub refused_trace : TraceFault → Extracted
refused_trace (untraced.Refused k c) = outcome.RefusedTrace k c
refused_trace untraced.Fault = outcome.ReadFault
refused_trace untraced.NoMemory = outcome.NoMemory

abbrev pub failed_write : DeviceError → Extracted
failed_write device.Failed = outcome.WriteFault
failed_write device.NoMemory = outcome.NoMemory

-- the judgement of a trace that makes this claim
abbrev pub IsJudged : Claim → PrenexFormula → Proof → Judged → Type 0
IsJudged claim.True F p j = IsCertified F p j
IsJudged claim.False F p j = IsRefuted F p j

-- the claim of a verdict
abbrev pub claim_of : Verdict → Option Claim
claim_of verdict.Sat = Some claim.True
claim_of verdict.Unsat = Some claim.False
claim_of verdict.Unknown = None

-- what writing circuits leaves
abbrev pub Puts : Extracted → Claim → CertificateView → List ℕ → Disk → Option Disk → Type 0
Puts (outcome.True g) c made name before after = (c ≡ claim.True) × HoldsCircuits made g name before after
Puts (outcome.False g) c made name before after = (c ≡ claim.False) × HoldsCircuits made g name before after
Puts outcome.Unknown c made name before after = ⊥
Puts (outcome.RefusedTrace k e) c made name before after = ⊥
Puts (outcome.RefusedInput k e) c made name before after = ⊥
Puts outcome.ReadFault c made name before after = ⊥
Puts outcome.WriteFault c made name before after = MayHoldCircuits made name before after
Puts outcome.NoMemory c made name before after = (after ≡ Some before) ⊎ MayHoldCircuits made name before after

abbrev pub written_as : Claim → ℕ → Extracted
written_as claim.True g = outcome.True g
written_as claim.False g = outcome.False g

-- the command, told once
abbrev pub told : ExtractFiles → Told
told n = record {
  Outcome = Extracted;
  status_of = status_of_extracted;
  line_of = line_of_extracted;
  says = λ o disk after. Extracts o n disk after;
  gives = λ given disk after. ExtractsExactly given n disk after;
  answers = λ disk given. (AreTrue n disk → OrNoMemory given status.True) × (AreFalse n disk → OrNoMemory given status.False) × (AreUnknown n disk → OrNoMemory given status.Unknown);
  reads = names_read n;
  writes = names_written n;
  reads_at = input_then n.input n.trace;
  writes_at = untold (names_written n);
}
