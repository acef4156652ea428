-- The line and the status of `rebuild`, by its outcome.
use Rattle.std.specs.Prelude.{ℕ, List, ◌++◌, codes, decimal}
use Rattle.q_app.specs.declared.rebuilt.Rebuilt.{Rebuilt}
use Rattle.q_app.specs.declared.rebuilt.Rebuilt.TheVariants.{Written, Unverified, RefusedText, RefusedCircuits, FalseOutput, ReadFault, WriteFault, NoMemory}
use Rattle.q_command.specs.Unfits.{line_of_unfit}
use Rattle.q_command.specs.declared.status.Status.{Status}
use Rattle.q_command.specs.declared.status.Status.TheVariants as status
use Rattle.q_command.specs.Statuses.{status_of}
use Rattle.q_command.specs.Lines.{line_of}

abbrev pub status_of_rebuilt : Rebuilt → Status
status_of_rebuilt (Written n) = status.Done
status_of_rebuilt (Unverified o) = status_of o
status_of_rebuilt (RefusedText n c) = status.CircuitsRefused
status_of_rebuilt (RefusedCircuits w) = status.CircuitsRefused
status_of_rebuilt FalseOutput = status.CircuitsRefused
status_of_rebuilt ReadFault = status.ReadFault
status_of_rebuilt WriteFault = status.WriteFault
status_of_rebuilt NoMemory = status.NoMemory

abbrev pub line_of_rebuilt : Rebuilt → List ℕ
line_of_rebuilt (Written n) = codes "rebuilt " ++ decimal n ++ codes "\n"
line_of_rebuilt (Unverified o) = line_of o
line_of_rebuilt (RefusedText n c) = codes "circuits line " ++ decimal n ++ codes " cause " ++ decimal c ++ codes "\n"
line_of_rebuilt (RefusedCircuits w) = line_of_unfit w
line_of_rebuilt FalseOutput = codes "circuits of a false output\n"
line_of_rebuilt ReadFault = codes "read fault\n"
line_of_rebuilt WriteFault = codes "write fault\n"
line_of_rebuilt NoMemory = codes "no memory\n"
