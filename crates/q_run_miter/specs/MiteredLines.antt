-- The line and the status of `miter`, by its outcome.
use Rattle.std.specs.Prelude.{ℕ, List, ◌++◌, codes, decimal}
use Rattle.q_command.specs.Unfits.{line_of_unfit}
use Rattle.q_command.specs.declared.status.Status.{Status}
use Rattle.q_command.specs.declared.status.Status.TheVariants as status
use Rattle.q_run_miter.specs.declared.mitered.Mitered.{Mitered}
use Rattle.q_run_miter.specs.declared.mitered.Mitered.TheVariants.{Written, RefusedInput, RefusedText, RefusedCircuits, TooLarge, ReadFault, WriteFault, NoMemory}

abbrev pub status_of_mitered : Mitered → Status
status_of_mitered (Written n) = status.Done
status_of_mitered (RefusedInput n c) = status.InputRefused
status_of_mitered (RefusedText n c) = status.CircuitsRefused
status_of_mitered (RefusedCircuits w) = status.CircuitsRefused
status_of_mitered TooLarge = status.CircuitsRefused
status_of_mitered ReadFault = status.ReadFault
status_of_mitered WriteFault = status.WriteFault
status_of_mitered NoMemory = status.NoMemory

abbrev pub line_of_mitered : Mitered → List ℕ
line_of_mitered (Written n) = codes "written " ++ decimal n ++ codes "\n"
line_of_mitered (RefusedInput n c) = codes "input IN line " ++ decimal n ++ codes " cause " ++ decimal c ++ codes "\n"
line_of_mitered (RefusedText n c) = codes "circuits line " ++ decimal n ++ codes " cause " ++ decimal c ++ codes "\n"
line_of_mitered (RefusedCircuits w) = line_of_unfit w
line_of_mitered TooLarge = codes "circuits too large\n"
line_of_mitered ReadFault = codes "read fault\n"
line_of_mitered WriteFault = codes "write fault\n"
line_of_mitered NoMemory = codes "no memory\n"
