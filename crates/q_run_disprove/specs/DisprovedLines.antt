-- The line and the status of `disprove`, by its outcome.
use Rattle.std.specs.Prelude.{ℕ, List, ◌++◌, codes, decimal}
use Rattle.q_command.specs.declared.status.Status.{Status}
use Rattle.q_command.specs.declared.status.Status.TheVariants as status
use Rattle.q_run_disprove.specs.declared.disproved.Disproved.{Disproved}
use Rattle.q_run_disprove.specs.declared.disproved.Disproved.TheVariants as outcome

abbrev pub status_of_disproved : Disproved → Status
status_of_disproved (outcome.False n) = status.False
status_of_disproved (outcome.RefusedLine n c) = status.LogRefused
status_of_disproved outcome.RefusedEnd = status.LogRefused
status_of_disproved (outcome.RefusedInput n c) = status.InputRefused
status_of_disproved outcome.ReadFault = status.ReadFault
status_of_disproved outcome.NoMemory = status.NoMemory

abbrev pub line_of_disproved : Disproved → List ℕ
line_of_disproved (outcome.False n) = codes "false " ++ decimal n ++ codes "\n"
line_of_disproved (outcome.RefusedLine n c) = codes "refused line " ++ decimal n ++ codes " cause " ++ decimal c ++ codes "\n"
line_of_disproved outcome.RefusedEnd = codes "refused end cause " ++ decimal 11 ++ codes "\n"
line_of_disproved (outcome.RefusedInput n c) = codes "input IN line " ++ decimal n ++ codes " cause " ++ decimal c ++ codes "\n"
line_of_disproved outcome.ReadFault = codes "read fault\n"
line_of_disproved outcome.NoMemory = codes "no memory\n"
