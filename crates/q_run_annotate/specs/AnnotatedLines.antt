-- The line and the status of `annotate`, by its outcome.
use Rattle.std.specs.Prelude.{ℕ, List, ◌++◌, codes, decimal}
use Rattle.q_command.specs.Lines.{line_of}
use Rattle.q_command.specs.Statuses.{status_of}
use Rattle.q_command.specs.declared.status.Status.{Status}
use Rattle.q_command.specs.declared.status.Status.TheVariants as status
use Rattle.q_run_annotate.specs.declared.annotated.Annotated.{Annotated}
use Rattle.q_run_annotate.specs.declared.annotated.Annotated.TheVariants.{Written, Unverified, WriteFault, NoMemory}

abbrev pub status_of_annotated : Annotated → Status
status_of_annotated (Written n) = status.Done
status_of_annotated (Unverified o) = status_of o
status_of_annotated WriteFault = status.WriteFault
status_of_annotated NoMemory = status.NoMemory

abbrev pub line_of_annotated : Annotated → List ℕ
line_of_annotated (Written n) = codes "annotated " ++ decimal n ++ codes "\n"
line_of_annotated (Unverified o) = line_of o
line_of_annotated WriteFault = codes "write fault\n"
line_of_annotated NoMemory = codes "no memory\n"
