-- What a run does: its commands in turn, or one line where the words are none.
use Rattle.std.specs.Prelude.{◌≡◌, ◌≢◌, ◌⊎◌, true, false, List, [], ◌∷◌, Some, None, codes}
use Rattle.q_logic.specs.Prelude.{Rose}
use Rattle.q_command.specs.Devices.{Devices, AreLater}
use Rattle.q_command.specs.Sinks.{IsSaid}
use Rattle.q_command.specs.Statuses.{passes}
use Rattle.q_command.specs.Told.{Runs}
use Rattle.q_app.specs.Told.{told}
use Rattle.q_app.specs.Words.{Command, Request}
use Rattle.q_command.specs.declared.status.Status.{Status}
use Rattle.q_command.specs.declared.status.Status.TheVariants as status

-- one command after the other, each over what the one before left; the first that does not pass is the last, and the status
-- is that of the last
abbrev pub InTurn : List Command → Devices → Status → Devices → Type 0
InTurn [] before given after = ⊥
InTurn (c ∷ []) before given after = Runs (told c) before given after
InTurn (c ∷ d ∷ cs) before given after =
    (first : Status) × (between : Devices) × Runs (told c) before first between
    × AreLater before between × AreLater between after
    × (((passes first ≡ true) × InTurn (d ∷ cs) between given after) ⊎ ((passes first ≡ false) × (given ≡ first) × (after ≡ between)))

-- the words are no command: the line says so, no file changes, and a fault is given only where that of the sink rose
pub record SaysUsage (before : Devices) (given : Status) (after : Devices) : Type 0 where
  pub read_fault : given ≢ status.ReadFault
  pub write_fault : given ≡ status.WriteFault → Rose before.sink.faults after.sink.faults
  pub unchanged : after.held ≡ before.held
  pub line : IsSaid (codes "usage\n") status.Usage given before.sink after.sink

-- what the words ask for is done; where they are not understood, that is said
abbrev pub Does : Request → Devices → Status → Devices → Type 0
Does None before given after = SaysUsage before given after
Does (Some cs) before given after = InTurn cs before given after
