-- The line and the status of `apply`, by its outcome.
use Rattle.std.specs.Prelude.{ℕ, List, ◌++◌, codes, decimal}
use Rattle.q_command.specs.declared.status.Status.{Status}
use Rattle.q_command.specs.declared.status.Status.TheVariants as status
use Rattle.q_run_apply.specs.declared.applied.Applied.{Applied}
use Rattle.q_run_apply.specs.declared.applied.Applied.TheVariants as outcome

abbrev pub status_of_applied : Applied → Status
status_of_applied (outcome.Whole n) = status.Done
status_of_applied (outcome.Broken n k) = status.Done
status_of_applied (outcome.RefusedLine n c) = status.LogRefused
status_of_applied (outcome.RefusedInput n c) = status.InputRefused
status_of_applied outcome.ReadFault = status.ReadFault
status_of_applied outcome.WriteFault = status.WriteFault
status_of_applied outcome.NoMemory = status.NoMemory

abbrev pub line_of_applied : Applied → List ℕ
line_of_applied (outcome.Whole n) = codes "applied " ++ decimal n ++ codes "\n"
line_of_applied (outcome.Broken n k) = codes "applied " ++ decimal n ++ codes " broken line " ++ decimal k ++ codes "\n"
line_of_applied (outcome.RefusedLine n c) = codes "refused line " ++ decimal n ++ codes " cause " ++ decimal c ++ codes "\n"
line_of_applied (outcome.RefusedInput n c) = codes "input IN line " ++ decimal n ++ codes " cause " ++ decimal c ++ codes "\n"
line_of_applied outcome.ReadFault = codes "read fault\n"
line_of_applied outcome.WriteFault = codes "write fault\n"
line_of_applied outcome.NoMemory = codes "no memory\n"
