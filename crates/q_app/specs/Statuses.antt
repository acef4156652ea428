-- The statuses of a formula that was simplified.
use Rattle.q_command.specs.declared.status.Status.{Status}
use Rattle.q_command.specs.declared.status.Status.TheVariants as status
use Rattle.q_simplify.specs.declared.report.Ending.{Ending}
use Rattle.q_simplify.specs.declared.report.Ending.TheVariants as ending
use Rattle.q_app.specs.declared.simplified.Simplified.{Simplified}
use Rattle.q_app.specs.declared.simplified.Simplified.TheVariants as simplified

abbrev pub status_of_ending : Ending → Status
status_of_ending ending.Settled = status.Done
status_of_ending ending.True = status.True
status_of_ending ending.False = status.False
status_of_ending ending.Spent = status.Spent
status_of_ending ending.Stopped = status.Spent

abbrev pub status_of_simplified : Simplified → Status
status_of_simplified (simplified.Written r) = status_of_ending r.ending
status_of_simplified (simplified.RefusedInput n c) = status.InputRefused
status_of_simplified simplified.ReadFault = status.ReadFault
status_of_simplified simplified.WriteFault = status.WriteFault
status_of_simplified simplified.NoMemory = status.NoMemory
