-- The line and the status of `extract`, by its outcome.
use Rattle.std.specs.Prelude.{ℕ, List, ◌++◌, codes, decimal}
use Rattle.q_command.specs.declared.status.Status.{Status}
use Rattle.q_command.specs.declared.status.Status.TheVariants as status
use Rattle.q_run_extract.specs.declared.extracted.Extracted.{Extracted}
use Rattle.q_run_extract.specs.declared.extracted.Extracted.TheVariants as outcome

abbrev pub status_of_extracted : Extracted → Status
status_of_extracted (outcome.True n) = status.True
status_of_extracted (outcome.False n) = status.False
status_of_extracted outcome.Unknown = status.Unknown
status_of_extracted (outcome.RefusedTrace n c) = status.LogRefused
status_of_extracted (outcome.RefusedInput n c) = status.InputRefused
status_of_extracted outcome.ReadFault = status.ReadFault
status_of_extracted outcome.WriteFault = status.WriteFault
status_of_extracted outcome.NoMemory = status.NoMemory

abbrev pub line_of_extracted : Extracted → List ℕ
line_of_extracted (outcome.True n) = codes "true " ++ decimal n ++ codes "\n"
line_of_extracted (outcome.False n) = codes "false " ++ decimal n ++ codes "\n"
line_of_extracted outcome.Unknown = codes "unknown\n"
line_of_extracted (outcome.RefusedTrace n c) = codes "refused line " ++ decimal n ++ codes " cause " ++ decimal c ++ codes "\n"
line_of_extracted (outcome.RefusedInput n c) = codes "input IN line " ++ decimal n ++ codes " cause " ++ decimal c ++ codes "\n"
line_of_extracted outcome.ReadFault = codes "read fault\n"
line_of_extracted outcome.WriteFault = codes "write fault\n"
line_of_extracted outcome.NoMemory = codes "no memory\n"
