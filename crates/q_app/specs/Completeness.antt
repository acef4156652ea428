-- Completeness: where no fault comes and the inputs are in their grammars, the answer comes, or memory is wanting.
use Rattle.std.specs.Prelude.{◌≡◌, ◌≤◌, ℕ, List, [], ◌∷◌, length, Option, Some, IfSome}
use Rattle.q_logic.specs.Prelude.{Rose}
use Rattle.q_io.specs.Files.{Disk, RoseAmong, bytes_at}
use Rattle.q_command.specs.Devices.{Devices}
use Rattle.q_command.specs.Names.{ThreeNames}
use Rattle.q_command.specs.Told.{Runs, OrNoMemory, Completes}
use Rattle.q_app.specs.Operands.{Differ}
use Rattle.q_app.specs.Words.{Command, demo}
use Rattle.q_app.specs.Told.{told}
use Rattle.q_app.specs.Says.{InTurn}
use Rattle.q_app.specs.declared.words.Scale.{Scale}
use Rattle.q_command.specs.declared.status.Status.{Status}
use Rattle.q_command.specs.declared.status.Status.TheVariants as status

-- of whatever a command does this is true
abbrev pub EachCompletes : Type 0
EachCompletes =
    (c : Command) → (before : Devices) → (given : Status) → (after : Devices) →
    Runs (told c) before given after → Completes (told c) before given after

-- no count of faults rose, of a file of `demo` or of the sink
pub record IsFaultlessDemo (n : ThreeNames) (before after : Devices) : Type 0 where
  pub reads : ¬ RoseAmong (λ (d : Devices). d.read_faults) (n.input ∷ n.output ∷ n.log ∷ []) before after
  pub writes : ¬ RoseAmong (λ (d : Devices). d.write_faults) (n.input ∷ n.output ∷ n.log ∷ []) before after
  pub sink : ¬ Rose before.sink.faults after.sink.faults

-- the log is no longer than a file may be
abbrev pub IsShortLog : List ℕ → Option Disk → Type 0
IsShortLog log after = (disk : Disk) → after ≡ Some disk → length (bytes_at disk log) ≤ 1099511627776

-- `demo` makes a formula, simplifies it and verifies its own log
abbrev pub DemoCompletes : ThreeNames → Devices → Status → Devices → Type 0
DemoCompletes n before given after =
    IfSome before.held (λ disk. IsFaultlessDemo n before after → IsShortLog n.log after.held → OrNoMemory given status.Done)

abbrev pub DemoCompletesAlways : Type 0
DemoCompletesAlways =
    (k : Scale) → (n : ThreeNames) → (before : Devices) → (given : Status) → (after : Devices) →
    k.size ≤ 100000 → Differ n → InTurn (demo k n) before given after → DemoCompletes n before given after
