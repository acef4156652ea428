-- The exit statuses.
use Rattle.std.specs.Prelude.{ℕ, Bool, true, false}
use Rattle.q_command.specs.declared.status.Status.{Status}
use Rattle.q_command.specs.declared.status.Status.TheVariants as status
use Rattle.q_command.specs.declared.outcome.Outcome.{Outcome}
use Rattle.q_command.specs.declared.outcome.Outcome.TheVariants.{Verified, RefusedLine, RefusedEnd, RefusedInput, ReadFault, NoMemory}

abbrev pub code_of : Status → ℕ
code_of status.Done = 0
code_of status.LogRefused = 1
code_of status.Spent = 2
code_of status.InputRefused = 3
code_of status.ReadFault = 4
code_of status.WriteFault = 5
code_of status.NoMemory = 6
code_of status.CircuitsRefused = 7
code_of status.Extended = 8
code_of status.Invalid = 9
code_of status.True = 10
code_of status.Unknown = 12
code_of status.False = 20
code_of status.Usage = 64

-- the status of an outcome whose line was put
abbrev pub status_of : Outcome → Status
status_of (Verified n) = status.Done
status_of (RefusedLine n c) = status.LogRefused
status_of (RefusedEnd c) = status.LogRefused
status_of (RefusedInput r n c) = status.InputRefused
status_of ReadFault = status.ReadFault
status_of NoMemory = status.NoMemory

-- with 0, 10 and 20 the next command is done
abbrev pub passes : Status → Bool
passes status.Done = true
passes status.True = true
passes status.False = true
passes status.Spent = false
passes status.LogRefused = false
passes status.InputRefused = false
passes status.ReadFault = false
passes status.WriteFault = false
passes status.NoMemory = false
passes status.CircuitsRefused = false
passes status.Extended = false
passes status.Invalid = false
passes status.Unknown = false
passes status.Usage = false
