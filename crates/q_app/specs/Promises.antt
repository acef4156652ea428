-- What a run promises of its commands, over the devices before and after.
use Rattle.std.specs.Prelude.{◌≡◌, [], ◌∷◌, Some, IfSome}
use Rattle.q_logic.specs.Prelude.{PrenexFormula}
use Rattle.q_io.specs.Files.{bytes_at}
use Rattle.q_simplify.specs.declared.options.Options.{Options}
use Rattle.q_command.specs.Checks.{IsFileOf}
use Rattle.q_command.specs.Names.{ThreeNames}
use Rattle.q_command.specs.declared.status.Status.{Status}
use Rattle.q_app.specs.declared.words.Scale.{Scale}
use Rattle.q_app.specs.Words.{Command, simplifying, demo, Request}
use Rattle.q_command.specs.Devices.{Devices}
use Rattle.q_command.specs.Told.{Completes}
use Rattle.q_app.specs.Told.{told}
use Rattle.q_app.specs.Headline.{EndsRight}
use Rattle.q_app.specs.Completeness.{DemoCompletes}

-- where the words ask for `simplify` and IN holds a formula, it ends, memory and faults aside, whatever the guides and the budget:
-- with a formula that is true exactly where that of IN is, and with a log that `check` accepts
abbrev pub SimplifyEnds : Request → Devices → Status → Devices → Type 0
SimplifyEnds r before given after =
    (n : ThreeNames) → (o : Options) → r ≡ Some (simplifying n o ∷ []) → IfSome before.held (λ disk.
    (F : PrenexFormula) → IsFileOf (bytes_at disk n.input) F → EndsRight given o F n.input n.output n.log after.held)

-- where the words ask for `demo`, it ends with 0 if no fault comes and the log is no longer than a file may be, or memory is wanting
abbrev pub DemoPasses : Request → Devices → Status → Devices → Type 0
DemoPasses r before given after =
    (k : Scale) → (n : ThreeNames) → r ≡ Some (demo k n) → DemoCompletes n before given after

-- where the words ask for one command, its answer comes if no fault does, or memory is wanting
abbrev pub AnswerComes : Request → Devices → Status → Devices → Type 0
AnswerComes r before given after = (c : Command) → r ≡ Some (c ∷ []) → Completes (told c) before given after
