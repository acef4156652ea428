-- The program, from its arguments to its exit status.
use Rattle.std.specs.Prelude.{◌≡◌, ◌⊎◌, ℕ, List, drop}
use Rattle.q_command.specs.Statuses.{code_of}
use Rattle.q_command.specs.declared.status.Status.{Status}
use Rattle.q_command.specs.declared.status.Status.TheVariants as status
use Rattle.q_app.specs.Commands.{is_plain, request, seconds_of}
use Rattle.q_command.specs.Devices.{Devices}
use Rattle.q_sched.specs.Alarms.{AlarmView}
use Rattle.q_app.specs.Stopping.{AlarmKeeps, KeepsUntil}

-- what these words ask for is done, or a simplification that the alarm stopped, and this is the number of its status
pub record DoesWith (words : List (List ℕ)) (first last : AlarmView) (before : Devices) (code : ℕ) (after : Devices) : Type 0 where
  pub given : Status
  pub keeps : KeepsUntil first last (request words) before given after
  pub alarm : AlarmKeeps (request words) (seconds_of words) (is_plain words) given first last
  pub code_is : code ≡ code_of given

-- what the arguments after the first, the program's name, ask for is done; or memory was wanting before anything was done
abbrev pub Exits : List (List ℕ) → AlarmView → AlarmView → Devices → ℕ → Devices → Type 0
Exits arguments first last before code after =
    DoesWith (drop 1 arguments) first last before code after ⊎
    ((code ≡ code_of status.NoMemory) × (after ≡ before) × (last ≡ first))
