-- What `disprove` says of its files, where the steps of PROOF are judged as if they had no proof parts.
use Rattle.std.specs.Prelude.{◌≡◌, ◌⊎◌, ℕ, zero, suc, Bool, false, List, [], ◌∷◌, None, Some}
use Rattle.q_logic.specs.Prelude.{standard, PrenexFormula, Holds}
use Rattle.q_io.specs.Files.{Disk, bytes_at}
use Rattle.q_dimacs.specs.Offences.{Offence}
use Rattle.q_log.specs.Logs.{Parsed}
use Rattle.q_hinted.specs.Logs.{Entries}
use Rattle.q_binary.specs.Forms.{read_proof}
use Rattle.q_refutation.specs.Refutations.{Refutation, RefutedIn, RefusedAt}
use Rattle.q_command.specs.Checks.{IsFileOf}
use Rattle.q_command.specs.Judging.{bare}
use Rattle.q_command.specs.Logs.{Entry, steps_of, IsOffence}
use Rattle.q_command.specs.declared.input.InputError.{InputError}
use Rattle.q_command.specs.declared.input.InputError.TheVariants as input
use Rattle.q_run_disprove.specs.declared.names.DisproveNames.{DisproveNames}
use Rattle.q_run_disprove.specs.declared.disproved.Disproved.{Disproved}
use Rattle.q_run_disprove.specs.declared.disproved.Disproved.TheVariants as outcome

-- the names of the two files
pub record DisproveFiles : Type 0 where
  pub input : List ℕ
  pub proof : List ℕ

abbrev pub files_of : DisproveNames → DisproveFiles
files_of n = record { input = n.input.now; proof = n.proof.now }

-- the names of the files that are read
abbrev pub names_read : DisproveFiles → List (List ℕ)
names_read n = n.input ∷ n.proof ∷ []

-- the outcome of a failed reading
abbrev pub refused_input : InputError → Disproved
refused_input (input.Refused k c) = outcome.RefusedInput k c
refused_input input.Fault = outcome.ReadFault
refused_input input.NoMemory = outcome.NoMemory

-- the steps of a proof up to its first offence, each with its proof part if it has one, and this offence; where `binary` is set, what can
-- be either is a binary proof
abbrev pub entries_in : Bool → List ℕ → Entries
entries_in binary bytes = read_proof binary standard.bytes bytes

-- without the proof parts
abbrev pub bare_of : Entries → Parsed
bare_of o = record { steps = bare o.entries; refused = o.refused }

abbrev pub proof_of : Bool → List ℕ → Parsed
proof_of binary bytes = bare_of (entries_in binary bytes)

-- the steps lead to the empty clause; what is behind it is not looked at
abbrev pub IsRefutation : PrenexFormula → Parsed → Type 0
IsRefutation F p = Refutation false F (steps_of p.steps)

-- by so many of them
abbrev pub IsRefutationIn : ℕ → PrenexFormula → Parsed → Type 0
IsRefutationIn n F p = RefutedIn false standard F (steps_of p.steps) n

-- the step behind so many others stands on this line
abbrev pub IsOnLine : List Entry → ℕ → ℕ → Type 0
IsOnLine [] at line = ⊥
IsOnLine (e ∷ es) zero line = line ≡ e.0
IsOnLine (e ∷ es) (suc at) line = IsOnLine es at line

-- before the empty clause is there, a step may not be made: its line, and the least cause
abbrev pub StepFails : ℕ → ℕ → PrenexFormula → Parsed → Type 0
StepFails line cause F p =
    (at : ℕ) × RefusedAt false standard F (steps_of p.steps) at (Some cause) × IsOnLine p.steps at line

-- all steps may be made, and the empty clause is never there
abbrev pub LeadsNowhere : PrenexFormula → Parsed → Type 0
LeadsNowhere F p = (at : ℕ) × RefusedAt false standard F (steps_of p.steps) at None

-- before the empty clause is there, a line is no step, or its step may not be made
abbrev pub LineFails : ℕ → ℕ → PrenexFormula → Parsed → Type 0
LineFails line cause F p = StepFails line cause F p ⊎ (LeadsNowhere F p × IsOffence p.refused line cause)

-- the proof ends, and the empty clause is not there
abbrev pub EndFails : PrenexFormula → Parsed → Type 0
EndFails F p = LeadsNowhere F p × (p.refused ≡ None)

-- what the outcome says of a formula and a proof
abbrev pub SaysOf : Disproved → PrenexFormula → Parsed → Type 0
SaysOf (outcome.False n) F p = IsRefutationIn n F p
SaysOf (outcome.RefusedLine k c) F p = LineFails k c F p
SaysOf outcome.RefusedEnd F p = EndFails F p
SaysOf (outcome.RefusedInput k c) F p = ⊥
SaysOf outcome.ReadFault F p = Unit {0}
SaysOf outcome.NoMemory F p = Unit {0}

-- IN holds a formula of which this is true, with what PROOF says
pub record OfFiles (n : DisproveFiles) (binary : Bool) (disk : Disk) (P : PrenexFormula → Parsed → Type 0) : Type 0 where
  pub formula : PrenexFormula
  pub is_input : IsFileOf (bytes_at disk n.input) formula
  pub holds : P formula (proof_of binary (bytes_at disk n.proof))

-- what there is to say of the two files; none changes
abbrev pub Says : Disproved → DisproveFiles → Bool → Disk → Type 0
Says (outcome.False k) n binary disk = OfFiles n binary disk (IsRefutationIn k)
Says (outcome.RefusedLine k c) n binary disk = OfFiles n binary disk (LineFails k c)
Says outcome.RefusedEnd n binary disk = OfFiles n binary disk EndFails
Says (outcome.RefusedInput k c) n binary disk = Offence standard (bytes_at disk n.input) k c
Says outcome.ReadFault n binary disk = Unit {0}
Says outcome.NoMemory n binary disk = Unit {0}

-- PROOF refutes the formula of IN, or it does not
abbrev pub IsDisproof : DisproveFiles → Bool → Disk → Type 0
IsDisproof n binary disk = OfFiles n binary disk IsRefutation

abbrev pub IsNoDisproof : DisproveFiles → Bool → Disk → Type 0
IsNoDisproof n binary disk = OfFiles n binary disk (λ F p. ¬ IsRefutation F p)

-- the formula of IN is false
abbrev pub InputIsFalse : DisproveFiles → Disk → Type 0
InputIsFalse n disk = (F : PrenexFormula) → IsFileOf (bytes_at disk n.input) F → ¬ Holds F
