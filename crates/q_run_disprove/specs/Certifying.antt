-- What `disprove` with circuits says of its files and leaves in them.
use Rattle.std.specs.Prelude.{◌≡◌, ◌⊎◌, ◌++◌, ℕ, Bool, List, [], ◌∷◌, Option, Some}
use Rattle.q_logic.specs.Prelude.{PrenexFormula, CertificateView, ProofStep}
use Rattle.q_io.specs.Files.{Disk, HoldsBytes, MayHoldFront, bytes_at}
use Rattle.q_log.specs.Logs.{Parsed}
use Rattle.q_aiger.specs.Writing.{IsCanonical}
use Rattle.q_refutation.specs.Refutations.{IsLost}
use Rattle.q_herbrand.specs.Disproved.{IsDisproved}
use Rattle.q_herbrand.specs.Trails.{HasMade, Trailed}
use Rattle.q_command.specs.Checks.{IsNoFormula, Exactly, input_then}
use Rattle.q_command.specs.Logs.{steps_of}
use Rattle.q_command.specs.FirstFaults.{untold}
use Rattle.q_command.specs.Told.{Told, OrNoMemory}
use Rattle.q_command.specs.declared.status.Status.{Status}
use Rattle.q_command.specs.declared.status.Status.TheVariants as status
use Rattle.q_run_disprove.specs.CertifiedLines.{line_of_certified, status_of_certified}
use Rattle.q_run_disprove.specs.Disproofs.{DisproveFiles, InputIsFalse, IsNoDisproof, IsRefutation, IsRefutationIn, OfFiles, Says}
use Rattle.q_run_disprove.specs.Extended.{FirstExtended}
use Rattle.q_run_disprove.specs.declared.names.CertifyNames.{CertifyNames}
use Rattle.q_run_disprove.specs.declared.certified.Certified.{Certified}
use Rattle.q_run_disprove.specs.declared.certified.Certified.TheVariants as certified
use Rattle.q_run_disprove.specs.declared.disproved.Disproved.{Disproved}
use Rattle.q_run_disprove.specs.declared.disproved.Disproved.TheVariants as outcome

-- the names of the three files
pub record CertifyFiles : Type 0 where
  pub read : DisproveFiles
  pub cert : List ℕ

abbrev pub files_of : CertifyNames → CertifyFiles
files_of n = record { read = record { input = n.input.now; proof = n.proof.now }; cert = n.cert.now }

-- the names of the files that are read, and of the one that is written
abbrev pub names_read : CertifyFiles → List (List ℕ)
names_read n = n.read.input ∷ n.read.proof ∷ []

abbrev pub names_written : CertifyFiles → List (List ℕ)
names_written n = n.cert ∷ []

-- no extended drop stands before the empty clause
abbrev pub IsPlain : PrenexFormula → Parsed → Type 0
IsPlain F p = (line : ℕ) → ¬ FirstExtended F p.steps line

-- the first one stands on some line
abbrev pub IsExtendedIn : PrenexFormula → Parsed → Type 0
IsExtendedIn F p = (line : ℕ) × FirstExtended F p.steps line

-- the circuits that are written, with so many gates: Herbrand functions of F, by the reversals of the steps that lead to the empty clause
pub record IsCertificate (gates : ℕ) (F : PrenexFormula) (p : Parsed) (text : List ℕ) : Type 0 where
  pub front : List ProofStep
  pub rest : List ProofStep
  pub whole : steps_of p.steps ≡ front ++ rest
  pub trail : Trailed
  pub made_steps : HasMade F front trail
  pub lost : IsLost trail.formula
  pub made : CertificateView
  pub disproved : IsDisproved F trail made
  pub canonical : IsCanonical made gates text

-- the steps, so many of them, lead to the empty clause, none of them is an extended drop, and the certificate is written whole
pub record IsWritten (steps : ℕ) (name : List ℕ) (before : Disk) (after : Option Disk) (F : PrenexFormula) (p : Parsed) : Type 0 where
  pub refutation : IsRefutationIn steps F p
  pub plain : IsPlain F p
  pub gates : ℕ
  pub text : List ℕ
  pub certificate : IsCertificate gates F p text
  pub written : HoldsBytes name text before after

-- a fault or want of memory while it was written
pub record IsFront (name : List ℕ) (before : Disk) (after : Option Disk) (F : PrenexFormula) (p : Parsed) : Type 0 where
  pub gates : ℕ
  pub text : List ℕ
  pub certificate : IsCertificate gates F p text
  pub left : MayHoldFront name text before after

abbrev pub IsWhole : ℕ → CertifyFiles → Bool → Disk → Option Disk → Type 0
IsWhole steps n binary before after = OfFiles n.read binary before (IsWritten steps n.cert before after)

abbrev pub IsPart : CertifyFiles → Bool → Disk → Option Disk → Type 0
IsPart n binary before after = OfFiles n.read binary before (IsFront n.cert before after)

-- the steps lead to the empty clause, and the first extended drop before it stands on this line
abbrev pub IsExtendedAt : ℕ → CertifyFiles → Bool → Disk → Type 0
IsExtendedAt line n binary disk = OfFiles n.read binary disk (λ F p. IsRefutation F p × FirstExtended F p.steps line)

-- an outcome of a proof that does not refute
abbrev pub IsUndisproved : Disproved → Type 0
IsUndisproved (outcome.False n) = ⊥
IsUndisproved (outcome.RefusedLine n c) = Unit {0}
IsUndisproved outcome.RefusedEnd = Unit {0}
IsUndisproved (outcome.RefusedInput n c) = Unit {0}
IsUndisproved outcome.ReadFault = Unit {0}
IsUndisproved outcome.NoMemory = Unit {0}

-- what there is to say, and what the files hold then; nothing is created before the empty clause is there
abbrev pub Certifies : Certified → CertifyFiles → Bool → Disk → Option Disk → Type 0
Certifies (certified.False k) n binary before after = IsWhole k n binary before after
Certifies (certified.Extended line) n binary before after = IsExtendedAt line n binary before × (after ≡ Some before)
Certifies (certified.Undisproved o) n binary before after = IsUndisproved o × Says o n.read binary before × (after ≡ Some before)
Certifies certified.WriteFault n binary before after = IsPart n binary before after
Certifies certified.NoMemory n binary before after = (after ≡ Some before) ⊎ IsPart n binary before after

-- PROOF refutes the formula of IN, without an extended drop before the empty clause, or with one
abbrev pub IsPlainDisproof : CertifyFiles → Bool → Disk → Type 0
IsPlainDisproof n binary disk = OfFiles n.read binary disk (λ F p. IsRefutation F p × IsPlain F p)

abbrev pub IsExtendedDisproof : CertifyFiles → Bool → Disk → Type 0
IsExtendedDisproof n binary disk = OfFiles n.read binary disk (λ F p. IsRefutation F p × IsExtendedIn F p)

-- the statuses with which no file has changed
abbrev pub IsUntouched : Status → Type 0
IsUntouched s = (s ≡ status.LogRefused) ⊎ (s ≡ status.InputRefused) ⊎ (s ≡ status.Extended) ⊎ (s ≡ status.ReadFault)

-- when each status comes, and what CERT holds then
pub record CertifiesExactly (given : Status) (n : CertifyFiles) (binary : Bool) (before : Disk) (after : Option Disk) : Type 0 where
  pub disproved : Exactly given status.False (IsPlainDisproof n binary before)
  pub written : given ≡ status.False → (steps : ℕ) × IsWhole steps n binary before after
  pub is_false : given ≡ status.False → InputIsFalse n.read before
  pub extended : Exactly given status.Extended (IsExtendedDisproof n binary before)
  pub log_refused : Exactly given status.LogRefused (IsNoDisproof n.read binary before)
  pub input_refused : Exactly given status.InputRefused (IsNoFormula (bytes_at before n.read.input))
  pub untouched : IsUntouched given → after ≡ Some before
  pub left : (given ≡ status.WriteFault) ⊎ (given ≡ status.NoMemory) → (after ≡ Some before) ⊎ IsPart n binary before after

-- the command; a proof refutes the formula, with an extended drop or without one, or is refused
abbrev pub told : CertifyFiles → Bool → Told
told n binary = record {
  Outcome = Certified;
  status_of = status_of_certified;
  line_of = line_of_certified;
  says = λ o disk after. Certifies o n binary disk after;
  gives = λ given disk after. CertifiesExactly given n binary disk after;
  answers = λ disk given.
      (IsPlainDisproof n binary disk → OrNoMemory given status.False) × (IsExtendedDisproof n binary disk → OrNoMemory given status.Extended)
      × (IsNoDisproof n.read binary disk → OrNoMemory given status.LogRefused);
  reads = names_read n;
  writes = names_written n;
  reads_at = input_then n.read.input n.read.proof;
  writes_at = untold (names_written n);
}
