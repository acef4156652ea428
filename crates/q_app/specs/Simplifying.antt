-- What `simplify` says and leaves, over the files before and after.
use Rattle.std.specs.Prelude.{◌≡◌, ◌≢◌, ◌⊎◌, ℕ, List, [], ◌∷◌, Option, Some}
use Rattle.q_logic.specs.Prelude.{PrenexFormula, standard, measure_of}
use Rattle.q_io.specs.Files.{Disk, bytes_at}
use Rattle.q_dimacs.specs.Offences.{Offence}
use Rattle.q_simplify.specs.declared.options.Options.{Options}
use Rattle.q_simplify.specs.declared.report.Report.{Report}
use Rattle.q_simplify.specs.Results.{IsEnoughFor, LogStands, Simplifies, SimplifiesPart, Leaves}
use Rattle.q_command.specs.Checks.{IsFileOf, IsNoFormula, Exactly, MayCome}
use Rattle.q_command.specs.Names.{ThreeNames}
use Rattle.q_command.specs.FirstFaults.{Turn, first_of, untold}
use Rattle.q_command.specs.Told.{Told, OrNoMemory}
use Rattle.q_app.specs.Lines.{line_of_simplified}
use Rattle.q_app.specs.Statuses.{status_of_ending, status_of_simplified}
use Rattle.q_command.specs.declared.status.Status.{Status}
use Rattle.q_command.specs.declared.status.Status.TheVariants as status
use Rattle.q_app.specs.declared.simplified.Simplified.{Simplified}
use Rattle.q_app.specs.declared.simplified.Simplified.TheVariants.{Written, RefusedInput, ReadFault, WriteFault, NoMemory}

-- the file of the input holds a formula, and OUT and LOG hold its result and the steps that lead there
abbrev pub IsWritten : Report → Options → List ℕ → List ℕ → List ℕ → Disk → Option Disk → Type 0
IsWritten r o input output log before after =
    (F : PrenexFormula) × IsFileOf (bytes_at before input) F × Simplifies o F r output log before after

-- a fault or want of memory while they were written
abbrev pub IsLeft : List ℕ → List ℕ → List ℕ → Disk → Option Disk → Type 0
IsLeft input output log before after =
    (F : PrenexFormula) × IsFileOf (bytes_at before input) F × Leaves F output log before after

-- LOG is whole: it has the text of steps that lead from the formula of the input
abbrev pub IsLogged : ThreeNames → Disk → Option Disk → Type 0
IsLogged n before after = (F : PrenexFormula) × IsFileOf (bytes_at before n.input) F × LogStands F n.log after

-- LOG is written first, and OUT where LOG is whole
abbrev pub output_turn : ThreeNames → Turn
output_turn n = record { name = n.output; reached = IsLogged n }

abbrev pub turns_written : ThreeNames → List Turn
turns_written n = first_of n.log ∷ output_turn n ∷ []

-- what there is to say, and what the files hold then
abbrev pub Ends : Simplified → Options → List ℕ → List ℕ → List ℕ → Disk → Option Disk → Type 0
Ends (Written r) o input output log before after = IsWritten r o input output log before after
Ends (RefusedInput n c) o input output log before after =
    Offence standard (bytes_at before input) n c × (after ≡ Some before)
Ends ReadFault o input output log before after = after ≡ Some before
Ends WriteFault o input output log before after = IsLeft input output log before after
Ends NoMemory o input output log before after =
    (after ≡ Some before) ⊎ IsLeft input output log before after

-- the status says that both files are written
abbrev pub IsEnded : Status → Type 0
IsEnded s = (s ≡ status.Done) ⊎ (s ≡ status.True) ⊎ (s ≡ status.False) ⊎ (s ≡ status.Spent)

-- when each status of `simplify` comes, and what the files hold then
pub record SimplifiesExactly (answer : Status) (o : Options) (input output log : List ℕ) (before : Disk) (after : Option Disk) : Type 0 where
  pub ended : IsEnded answer →
      (r : Report) × IsWritten r o input output log before after × (answer ≡ status_of_ending r.ending)
  pub enough : (F : PrenexFormula) → IsFileOf (bytes_at before input) F → IsEnoughFor o.budget (measure_of o.bounds F) →
      answer ≢ status.Spent
  pub refused : Exactly answer status.InputRefused (IsNoFormula (bytes_at before input))
  pub untouched : (answer ≡ status.InputRefused) ⊎ (answer ≡ status.ReadFault) → after ≡ Some before
  pub left : (answer ≡ status.WriteFault) ⊎ (answer ≡ status.NoMemory) →
      (after ≡ Some before) ⊎ IsLeft input output log before after
  pub any : IsEnded answer ⊎ (answer ≡ status.InputRefused) ⊎ MayCome answer

-- the command; a formula is simplified, and no budget that its measure does not pass is spent
abbrev pub told : ThreeNames → Options → Told
told n o = record {
  Outcome = Simplified;
  status_of = status_of_simplified;
  line_of = line_of_simplified;
  says = λ due disk after. Ends due o n.input n.output n.log disk after;
  gives = λ given disk after. SimplifiesExactly given o n.input n.output n.log disk after;
  answers = λ disk given.
      (F : PrenexFormula) → IsFileOf (bytes_at disk n.input) F →
      (IsEnded given ⊎ (given ≡ status.NoMemory)) × (IsEnoughFor o.budget (measure_of o.bounds F) → given ≢ status.Spent);
  reads = n.input ∷ [];
  writes = n.output ∷ n.log ∷ [];
  reads_at = untold (n.input ∷ []);
  writes_at = turns_written n;
}

-- the file of the input holds a formula, and OUT and LOG hold what a run that an alarm stopped has made of it, and the steps
abbrev pub IsCutOff : Report → Options → List ℕ → List ℕ → List ℕ → Disk → Option Disk → Type 0
IsCutOff r o input output log before after =
    (F : PrenexFormula) × IsFileOf (bytes_at before input) F × SimplifiesPart o F r output log before after

-- what there is to say of such a run: what it has written
abbrev pub Stops : Simplified → Options → List ℕ → List ℕ → List ℕ → Disk → Option Disk → Type 0
Stops (Written r) o input output log before after = IsCutOff r o input output log before after
Stops (RefusedInput n c) o input output log before after = ⊥
Stops ReadFault o input output log before after = ⊥
Stops WriteFault o input output log before after = ⊥
Stops NoMemory o input output log before after = ⊥

-- its statuses, and what the files hold then
pub record StopsExactly (answer : Status) (o : Options) (input output log : List ℕ) (before : Disk) (after : Option Disk) : Type 0 where
  pub written : (r : Report) × IsCutOff r o input output log before after
  pub any : (answer ≡ status.Spent) ⊎ MayCome answer

-- the command, where an alarm stops it
abbrev pub told_stopped : ThreeNames → Options → Told
told_stopped n o = record {
  Outcome = Simplified;
  status_of = status_of_simplified;
  line_of = line_of_simplified;
  says = λ due disk after. Stops due o n.input n.output n.log disk after;
  gives = λ given disk after. StopsExactly given o n.input n.output n.log disk after;
  answers = λ disk given. OrNoMemory given status.Spent;
  reads = n.input ∷ [];
  writes = n.output ∷ n.log ∷ [];
  reads_at = untold (n.input ∷ []);
  writes_at = turns_written n;
}
