-- What a part of `disprove` says of its files: it makes all steps up to the empty clause, and judges those of its own blocks. A deletion is
-- judged by nobody, since its clause has to be there and nothing more; among the steps of a block it counts.
use Rattle.std.specs.Prelude.{◌≡◌, ◌⊎◌, ℕ, Bool, List, [], ◌∷◌, Option, None, Some}
use Rattle.q_logic.specs.Prelude.{standard, PrenexFormula}
use Rattle.q_io.specs.Files.{Disk, bytes_at}
use Rattle.q_dimacs.specs.Offences.{Offence}
use Rattle.q_log.specs.Logs.{Parsed}
use Rattle.q_shares.specs.Shares.{Share}
use Rattle.q_refutation.specs.SharedRefutations.{RefusedShared, RefutesShared, SharedIn}
use Rattle.q_command.specs.Checks.{IsNoFormula, Exactly, input_then}
use Rattle.q_command.specs.Lines.{line_of}
use Rattle.q_command.specs.Logs.{steps_of, IsOffence}
use Rattle.q_command.specs.Parts.{share_of}
use Rattle.q_command.specs.Statuses.{status_of}
use Rattle.q_command.specs.Told.{Told, OrNoMemory}
use Rattle.q_command.specs.declared.outcome.Outcome.{Outcome}
use Rattle.q_command.specs.declared.outcome.Outcome.TheVariants as shared
use Rattle.q_command.specs.declared.outcome.Role.TheVariants.{In, Out}
use Rattle.q_command.specs.declared.part.Part.{Part}
use Rattle.q_command.specs.declared.status.Status.{Status}
use Rattle.q_command.specs.declared.status.Status.TheVariants as status
use Rattle.q_run_disprove.specs.Disproofs.{DisproveFiles, IsOnLine, OfFiles, names_read}
use Rattle.q_run_disprove.specs.declared.disproved.Disproved.{Disproved}
use Rattle.q_run_disprove.specs.declared.disproved.Disproved.TheVariants as outcome

-- the steps lead to the empty clause, as far as the share tells; what is behind it is not looked at
abbrev pub IsShareRefutation : Share → PrenexFormula → Parsed → Type 0
IsShareRefutation j F p = RefutesShared j standard 0 F (steps_of p.steps)

-- with so many steps of the share
abbrev pub IsShareRefutationIn : Share → ℕ → PrenexFormula → Parsed → Type 0
IsShareRefutationIn j n F p = SharedIn j standard 0 F (steps_of p.steps) n

-- before the empty clause is there, a step can't be made, or is one of the share and may not be made: its line, and the least cause
abbrev pub ShareStepFails : Share → ℕ → ℕ → PrenexFormula → Parsed → Type 0
ShareStepFails j line cause F p =
    (at : ℕ) × RefusedShared j standard 0 F (steps_of p.steps) at (Some cause) × IsOnLine p.steps at line

-- all steps are made, and the empty clause is never there
abbrev pub ShareLeadsNowhere : Share → PrenexFormula → Parsed → Type 0
ShareLeadsNowhere j F p = (at : ℕ) × RefusedShared j standard 0 F (steps_of p.steps) at None

-- before the empty clause is there, a line is no step, or its step is not taken
abbrev pub ShareLineFails : Share → ℕ → ℕ → PrenexFormula → Parsed → Type 0
ShareLineFails j line cause F p =
    ShareStepFails j line cause F p ⊎ (ShareLeadsNowhere j F p × IsOffence p.refused line cause)

-- the proof ends, and the empty clause is not there
abbrev pub ShareEndFails : Share → PrenexFormula → Parsed → Type 0
ShareEndFails j F p = ShareLeadsNowhere j F p × (p.refused ≡ None)

-- what is told of a formula and a proof, where steps of the share alone are counted
abbrev pub SaysShared : Share → Disproved → PrenexFormula → Parsed → Type 0
SaysShared j (outcome.False n) F p = IsShareRefutationIn j n F p
SaysShared j (outcome.RefusedLine k c) F p = ShareLineFails j k c F p
SaysShared j outcome.RefusedEnd F p = ShareEndFails j F p
SaysShared j (outcome.RefusedInput k c) F p = ⊥
SaysShared j outcome.ReadFault F p = Unit {0}
SaysShared j outcome.NoMemory F p = Unit {0}

-- a part says `verified`, since one alone shows nothing
abbrev pub told_by_part : Disproved → Outcome
told_by_part (outcome.False n) = shared.Verified n
told_by_part (outcome.RefusedLine k c) = shared.RefusedLine k c
told_by_part outcome.RefusedEnd = shared.RefusedEnd 11
told_by_part (outcome.RefusedInput k c) = shared.RefusedInput In k c
told_by_part outcome.ReadFault = shared.ReadFault
told_by_part outcome.NoMemory = shared.NoMemory

-- what a part says of the two files
abbrev pub PartSays : Share → Outcome → DisproveFiles → Bool → Disk → Type 0
PartSays j (shared.Verified k) n binary disk = OfFiles n binary disk (IsShareRefutationIn j k)
PartSays j (shared.RefusedLine k c) n binary disk = OfFiles n binary disk (ShareLineFails j k c)
PartSays j (shared.RefusedEnd c) n binary disk = (c ≡ 11) × OfFiles n binary disk (ShareEndFails j)
PartSays j (shared.RefusedInput In k c) n binary disk = Offence standard (bytes_at disk n.input) k c
PartSays j (shared.RefusedInput Out k c) n binary disk = ⊥
PartSays j shared.ReadFault n binary disk = Unit {0}
PartSays j shared.NoMemory n binary disk = Unit {0}

-- no file changes
abbrev pub PartDisproves : Share → Outcome → DisproveFiles → Bool → Disk → Option Disk → Type 0
PartDisproves j o n binary before after = PartSays j o n binary before × (after ≡ Some before)

-- PROOF refutes the formula of IN as far as the share tells, or it does not
abbrev pub IsShareDisproof : Share → DisproveFiles → Bool → Disk → Type 0
IsShareDisproof j n binary disk = OfFiles n binary disk (IsShareRefutation j)

abbrev pub IsNoShareDisproof : Share → DisproveFiles → Bool → Disk → Type 0
IsNoShareDisproof j n binary disk = OfFiles n binary disk (λ F p. ¬ IsShareRefutation j F p)

-- when each status of a part comes; no file changes
pub record PartDisprovesExactly (j : Share) (given : Status) (n : DisproveFiles) (binary : Bool) (before : Disk) (after : Option Disk) : Type 0 where
  pub verified : Exactly given status.Done (IsShareDisproof j n binary before)
  pub log_refused : Exactly given status.LogRefused (IsNoShareDisproof j n binary before)
  pub input_refused : Exactly given status.InputRefused (IsNoFormula (bytes_at before n.input))
  pub untouched : after ≡ Some before

-- `disprove IN PROOF --part=I/N`
abbrev pub told_part : DisproveFiles → Bool → Part → Told
told_part n binary p = record {
  Outcome = Outcome;
  status_of = status_of;
  line_of = line_of;
  says = λ o disk after. PartDisproves (share_of p) o n binary disk after;
  gives = λ given disk after. PartDisprovesExactly (share_of p) given n binary disk after;
  answers = λ disk given.
      (IsShareDisproof (share_of p) n binary disk → OrNoMemory given status.Done)
      × (IsNoShareDisproof (share_of p) n binary disk → OrNoMemory given status.LogRefused);
  reads = names_read n;
  writes = [];
  reads_at = input_then n.input n.proof;
  writes_at = [];
}

-- each of several says `verified`, with a number of its own
abbrev pub AllPartsVerified : List Share → List ℕ → DisproveFiles → Bool → Disk → Type 0
AllPartsVerified [] [] n binary disk = Unit {0}
AllPartsVerified [] (m ∷ ms) n binary disk = ⊥
AllPartsVerified (j ∷ js) [] n binary disk = ⊥
AllPartsVerified (j ∷ js) (m ∷ ms) n binary disk =
    PartSays j (shared.Verified m) n binary disk × AllPartsVerified js ms n binary disk
