-- The line and the status of `solve`, by its outcome.
use Rattle.std.specs.Prelude.{ℕ, List, ◌++◌, codes, decimal}
use Rattle.q_command.specs.declared.status.Status.{Status}
use Rattle.q_command.specs.declared.status.Status.TheVariants as status
use Rattle.q_run_solve.specs.declared.solved.Solved.{Solved}
use Rattle.q_run_solve.specs.declared.solved.Solved.TheVariants.{True, False, Unknown, RefusedInput, ReadFault, WriteFault, NoMemory}

abbrev pub status_of_solved : Solved → Status
status_of_solved (True n) = status.True
status_of_solved False = status.False
status_of_solved Unknown = status.Unknown
status_of_solved (RefusedInput n c) = status.InputRefused
status_of_solved ReadFault = status.ReadFault
status_of_solved WriteFault = status.WriteFault
status_of_solved NoMemory = status.NoMemory

abbrev pub line_of_solved : Solved → List ℕ
line_of_solved (True n) = codes "true " ++ decimal n ++ codes "\n"
line_of_solved False = codes "false\n"
line_of_solved Unknown = codes "unknown\n"
line_of_solved (RefusedInput n c) = codes "input IN line " ++ decimal n ++ codes " cause " ++ decimal c ++ codes "\n"
line_of_solved ReadFault = codes "read fault\n"
line_of_solved WriteFault = codes "write fault\n"
line_of_solved NoMemory = codes "no memory\n"
