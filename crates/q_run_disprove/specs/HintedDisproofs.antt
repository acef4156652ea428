-- What `disprove` says of its files. Where PROOF is a log with hints each step is judged by its proof part alone, and a deletion has to find
-- the clause that it names; else the steps are judged as they are.
use Rattle.std.specs.Prelude.{◌≡◌, ◌⊎◌, ◌==◌, ◌&&◌, not, ℕ, Bool, List, [], Option, None, Some}
use Rattle.q_logic.specs.Prelude.{standard, PrenexFormula, begun}
use Rattle.q_io.specs.Files.{Disk, bytes_at}
use Rattle.q_dimacs.specs.Offences.{Offence}
use Rattle.q_log.specs.declared.error.LogError.{LogError}
use Rattle.q_hinted.specs.Logs.{Profile, hinted_in}
use Rattle.q_binary.specs.Forms.{is_binary}
use Rattle.q_shares.specs.Shares.{Share, judged}
use Rattle.q_shown.specs.HintedRefutations.{HintedRefusedAt, HintedRefutation, HintedRefutedIn}
use Rattle.q_command.specs.Checks.{IsFileOf, IsNoFormula, Exactly, input_then}
use Rattle.q_command.specs.Logs.{HintedEntry, IsOffence, hinted_of, stripped}
use Rattle.q_command.specs.Told.{Told, OrNoMemory}
use Rattle.q_command.specs.declared.status.Status.{Status}
use Rattle.q_command.specs.declared.status.Status.TheVariants as status
use Rattle.q_run_disprove.specs.Disproofs.{DisproveFiles, InputIsFalse, IsOnLine, IsRefutation, SaysOf, entries_in, names_read, proof_of}
use Rattle.q_run_disprove.specs.DisprovedLines.{line_of_disproved, status_of_disproved}
use Rattle.q_run_disprove.specs.SharedDisproofs.{SaysShared}
use Rattle.q_run_disprove.specs.declared.disproved.Disproved.{Disproved}
use Rattle.q_run_disprove.specs.declared.disproved.Disproved.TheVariants as outcome

-- the proof is a log with hints: no binary proof, and its first token is `p`
abbrev pub is_hinted : Bool → List ℕ → Bool
is_hinted binary bytes = not (is_binary binary bytes) && (Profile standard.bytes bytes == 2)

-- its steps with their proof parts
abbrev pub hinted_proof : Bool → List ℕ → List HintedEntry
hinted_proof binary bytes = hinted_in (entries_in binary bytes).entries

abbrev pub offence_in : Bool → List ℕ → Option LogError
offence_in binary bytes = (entries_in binary bytes).refused

-- the steps lead to the empty clause, as their proof parts show
abbrev pub IsHintedRefutation : PrenexFormula → List HintedEntry → Type 0
IsHintedRefutation F hs = HintedRefutation F (hinted_of hs)

-- before the empty clause is there, a step may not be made: its line, and the least cause
abbrev pub HintedStepFails : ℕ → ℕ → PrenexFormula → List HintedEntry → Type 0
HintedStepFails line cause F hs =
    (at : ℕ) × HintedRefusedAt standard (begun F) (hinted_of hs) at (Some cause) × IsOnLine (stripped hs) at line

-- all steps may be made, and the empty clause is never there
abbrev pub HintedLeadsNowhere : PrenexFormula → List HintedEntry → Type 0
HintedLeadsNowhere F hs = (at : ℕ) × HintedRefusedAt standard (begun F) (hinted_of hs) at None

-- what the outcome says of a formula, of steps with proof parts, and of the offence behind them
abbrev pub HintedSays : Disproved → PrenexFormula → List HintedEntry → Option LogError → Type 0
HintedSays (outcome.False n) F hs r = HintedRefutedIn standard (begun F) (hinted_of hs) n
HintedSays (outcome.RefusedLine k c) F hs r = HintedStepFails k c F hs ⊎ (HintedLeadsNowhere F hs × IsOffence r k c)
HintedSays outcome.RefusedEnd F hs r = HintedLeadsNowhere F hs × (r ≡ None)
HintedSays (outcome.RefusedInput k c) F hs r = ⊥
HintedSays outcome.ReadFault F hs r = Unit {0}
HintedSays outcome.NoMemory F hs r = Unit {0}

-- IN holds a formula of which this is true
pub record OfInput (n : DisproveFiles) (disk : Disk) (P : PrenexFormula → Type 0) : Type 0 where
  pub formula : PrenexFormula
  pub is_input : IsFileOf (bytes_at disk n.input) formula
  pub holds : P formula

-- what is told of a proof whose steps of the share are judged; where hints count, all those of a log with hints are judged by these
abbrev pub SaysByHints : Bool → Bool → Share → Disproved → List ℕ → PrenexFormula → Type 0
SaysByHints hints binary j o bytes F =
    judged (hints && is_hinted binary bytes) (HintedSays o F (hinted_proof binary bytes) (offence_in binary bytes)) (SaysShared j o F (proof_of binary bytes))

-- of the two files
abbrev pub SaysOfFiles : Bool → Bool → Share → Disproved → DisproveFiles → Disk → Type 0
SaysOfFiles hints binary j (outcome.False k) n disk = OfInput n disk (SaysByHints hints binary j (outcome.False k) (bytes_at disk n.proof))
SaysOfFiles hints binary j (outcome.RefusedLine k c) n disk = OfInput n disk (SaysByHints hints binary j (outcome.RefusedLine k c) (bytes_at disk n.proof))
SaysOfFiles hints binary j outcome.RefusedEnd n disk = OfInput n disk (SaysByHints hints binary j outcome.RefusedEnd (bytes_at disk n.proof))
SaysOfFiles hints binary j (outcome.RefusedInput k c) n disk = Offence standard (bytes_at disk n.input) k c
SaysOfFiles hints binary j outcome.ReadFault n disk = Unit {0}
SaysOfFiles hints binary j outcome.NoMemory n disk = Unit {0}

-- the proof refutes the formula
abbrev pub Refutes : Bool → List ℕ → PrenexFormula → Type 0
Refutes binary bytes F = judged (is_hinted binary bytes) (IsHintedRefutation F (hinted_proof binary bytes)) (IsRefutation F (proof_of binary bytes))

-- what the outcome says of a formula and a proof
abbrev pub Tells : Disproved → Bool → List ℕ → PrenexFormula → Type 0
Tells o binary bytes F =
    judged (is_hinted binary bytes) (HintedSays o F (hinted_proof binary bytes) (offence_in binary bytes)) (SaysOf o F (proof_of binary bytes))

-- what there is to say of the two files
abbrev pub TellsFiles : Disproved → DisproveFiles → Bool → Disk → Type 0
TellsFiles (outcome.False k) n binary disk = OfInput n disk (Tells (outcome.False k) binary (bytes_at disk n.proof))
TellsFiles (outcome.RefusedLine k c) n binary disk = OfInput n disk (Tells (outcome.RefusedLine k c) binary (bytes_at disk n.proof))
TellsFiles outcome.RefusedEnd n binary disk = OfInput n disk (Tells outcome.RefusedEnd binary (bytes_at disk n.proof))
TellsFiles (outcome.RefusedInput k c) n binary disk = Offence standard (bytes_at disk n.input) k c
TellsFiles outcome.ReadFault n binary disk = Unit {0}
TellsFiles outcome.NoMemory n binary disk = Unit {0}

-- none changes
abbrev pub Disproves : Disproved → DisproveFiles → Bool → Disk → Option Disk → Type 0
Disproves o n binary before after = TellsFiles o n binary before × (after ≡ Some before)

-- PROOF refutes the formula of IN, or it does not
abbrev pub IsDisproof : DisproveFiles → Bool → Disk → Type 0
IsDisproof n binary disk = OfInput n disk (Refutes binary (bytes_at disk n.proof))

abbrev pub IsNoDisproof : DisproveFiles → Bool → Disk → Type 0
IsNoDisproof n binary disk = OfInput n disk (λ F. ¬ Refutes binary (bytes_at disk n.proof) F)

-- when each status of `disprove` comes; no file changes
pub record DisprovesExactly (given : Status) (n : DisproveFiles) (binary : Bool) (before : Disk) (after : Option Disk) : Type 0 where
  pub disproved : Exactly given status.False (IsDisproof n binary before)
  pub is_false : given ≡ status.False → InputIsFalse n before
  pub log_refused : Exactly given status.LogRefused (IsNoDisproof n binary before)
  pub input_refused : Exactly given status.InputRefused (IsNoFormula (bytes_at before n.input))
  pub untouched : after ≡ Some before

-- the command; a proof refutes the formula or is refused
abbrev pub told : DisproveFiles → Bool → Told
told n binary = record {
  Outcome = Disproved;
  status_of = status_of_disproved;
  line_of = line_of_disproved;
  says = λ o disk after. Disproves o n binary disk after;
  gives = λ given disk after. DisprovesExactly given n binary disk after;
  answers = λ disk given.
      (IsDisproof n binary disk → OrNoMemory given status.False) × (IsNoDisproof n binary disk → OrNoMemory given status.LogRefused);
  reads = names_read n;
  writes = [];
  reads_at = input_then n.input n.proof;
  writes_at = [];
}
