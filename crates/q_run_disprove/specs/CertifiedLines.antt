-- The line and the status of `disprove` with circuits, by its outcome.
use Rattle.std.specs.Prelude.{ℕ, List, ◌++◌, codes, decimal}
use Rattle.q_command.specs.declared.status.Status.{Status}
use Rattle.q_command.specs.declared.status.Status.TheVariants as status
use Rattle.q_run_disprove.specs.DisprovedLines.{line_of_disproved, status_of_disproved}
use Rattle.q_run_disprove.specs.declared.certified.Certified.{Certified}
use Rattle.q_run_disprove.specs.declared.certified.Certified.TheVariants as certified

abbrev pub status_of_certified : Certified → Status
status_of_certified (certified.False n) = status.False
status_of_certified (certified.Extended n) = status.Extended
status_of_certified (certified.Undisproved o) = status_of_disproved o
status_of_certified certified.WriteFault = status.WriteFault
status_of_certified certified.NoMemory = status.NoMemory

abbrev pub line_of_certified : Certified → List ℕ
line_of_certified (certified.False n) = codes "false " ++ decimal n ++ codes "\n"
line_of_certified (certified.Extended n) = codes "extended line " ++ decimal n ++ codes "\n"
line_of_certified (certified.Undisproved o) = line_of_disproved o
line_of_certified certified.WriteFault = codes "write fault\n"
line_of_certified certified.NoMemory = codes "no memory\n"
