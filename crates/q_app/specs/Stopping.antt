-- What a run under an alarm does: what one without does or, where the alarm rang, a simplification that it stopped.
use Rattle.std.specs.Prelude.{◌≡◌, ◌≢◌, ◌⊎◌, ℕ, Bool, [], ◌∷◌, Option, Some, IfSome}
use Rattle.q_logic.specs.Prelude.{PrenexFormula}
use Rattle.q_io.specs.Files.{Disk, bytes_at}
use Rattle.q_sched.specs.Alarms.{AlarmView, Rang, UnlessRung, WasAsked}
use Rattle.q_simplify.specs.declared.options.Options.{Options}
use Rattle.q_command.specs.Checks.{IsFileOf}
use Rattle.q_command.specs.Devices.{Devices}
use Rattle.q_command.specs.Names.{ThreeNames}
use Rattle.q_command.specs.Told.{Completes, Runs}
use Rattle.q_command.specs.declared.status.Status.{Status}
use Rattle.q_app.specs.Headline.{IsCarried}
use Rattle.q_app.specs.Promises.{AnswerComes, DemoPasses, SimplifyEnds}
use Rattle.q_app.specs.Says.{Does}
use Rattle.q_app.specs.Simplifying.{IsEnded, told_stopped}
use Rattle.q_app.specs.Words.{Request, simplifying}

-- one simplification was asked for, and of its names and options this holds
abbrev pub OfSimplification : Request → (ThreeNames → Options → Type 0) → Type 0
OfSimplification asked P = (n : ThreeNames) × (o : Options) × (asked ≡ Some (simplifying n o ∷ [])) × P n o

abbrev pub DoesUntil : AlarmView → AlarmView → Request → Devices → Status → Devices → Type 0
DoesUntil first last asked before given after =
    UnlessRung first last (Does asked before given after) (OfSimplification asked (λ n o. Runs (told_stopped n o) before given after))

-- what a run without an alarm does, and what it promises
pub record Keeps (done : Request) (before : Devices) (given : Status) (after : Devices) : Type 0 where
  pub does : Does done before given after
  pub simplify_ends : SimplifyEnds done before given after
  pub answer_comes : AnswerComes done before given after
  pub demo_passes : DemoPasses done before given after

-- what a simplification does that an alarm stopped, and what it promises: its line says so; OUT is true exactly where IN is, and
-- `check` accepts the log; and where no fault comes, so does its answer, or memory is wanting
pub record KeepsStopped (before : Devices) (given : Status) (after : Devices) (n : ThreeNames) (o : Options) : Type 0 where
  pub does : Runs (told_stopped n o) before given after
  pub simplify_stops : IfSome before.held (λ disk.
      (F : PrenexFormula) → IsFileOf (bytes_at disk n.input) F → (end : Disk) × (after.held ≡ Some end) × IsCarried F n.input n.output n.log end)
  pub answer_comes : Completes (told_stopped n o) before given after

abbrev pub KeepsUntil : AlarmView → AlarmView → Request → Devices → Status → Devices → Type 0
KeepsUntil first last asked before given after =
    UnlessRung first last (Keeps asked before given after) (OfSimplification asked (KeepsStopped before given after))

-- the alarm over a simplification: it is set as the words say, asked where both files are written, and rings at most once
pub record IsSetAndHeard (seconds : Option ℕ) (plain : Bool) (given : Status) (first last : AlarmView) : Type 0 where
  pub limit : last.limit ≡ seconds
  pub is_plain : last.is_plain ≡ plain
  pub rang : (last.rang ≡ first.rang) ⊎ Rang first last
  pub asked : IsEnded given → WasAsked first last

-- the alarm over a run: all other commands leave it as it is
pub record AlarmKeeps (asked : Request) (seconds : Option ℕ) (plain : Bool) (given : Status) (first last : AlarmView) : Type 0 where
  pub simplify : (n : ThreeNames) → (o : Options) → asked ≡ Some (simplifying n o ∷ []) →
      IsSetAndHeard seconds plain given first last
  pub others : ((n : ThreeNames) → (o : Options) → asked ≢ Some (simplifying n o ∷ [])) → last ≡ first
