-- The line and the status of `refute`, by its outcome.
use Rattle.std.specs.Prelude.{ℕ, List, ◌++◌, codes, decimal}
use Rattle.q_command.specs.Unfits.{line_of_unfit}
use Rattle.q_command.specs.declared.status.Status.{Status}
use Rattle.q_command.specs.declared.status.Status.TheVariants as status
use Rattle.q_command.specs.Statuses.{status_of}
use Rattle.q_command.specs.Lines.{line_of}
use Rattle.q_run_refute.specs.declared.refuted.Refuted.{Refuted}
use Rattle.q_run_refute.specs.declared.refuted.Refuted.TheVariants.{Written, Unverified, Extended, RefusedText, RefusedCircuits, TrueOutput, ReadFault, WriteFault, NoMemory}

abbrev pub status_of_refuted : Refuted → Status
status_of_refuted (Written n) = status.Done
status_of_refuted (Unverified o) = status_of o
status_of_refuted (Extended n) = status.Extended
status_of_refuted (RefusedText n c) = status.CircuitsRefused
status_of_refuted (RefusedCircuits w) = status.CircuitsRefused
status_of_refuted TrueOutput = status.CircuitsRefused
status_of_refuted ReadFault = status.ReadFault
status_of_refuted WriteFault = status.WriteFault
status_of_refuted NoMemory = status.NoMemory

abbrev pub line_of_refuted : Refuted → List ℕ
line_of_refuted (Written n) = codes "refuted " ++ decimal n ++ codes "\n"
line_of_refuted (Unverified o) = line_of o
line_of_refuted (Extended n) = codes "extended line " ++ decimal n ++ codes "\n"
line_of_refuted (RefusedText n c) = codes "circuits line " ++ decimal n ++ codes " cause " ++ decimal c ++ codes "\n"
line_of_refuted (RefusedCircuits w) = line_of_unfit w
line_of_refuted TrueOutput = codes "circuits of a true output\n"
line_of_refuted ReadFault = codes "read fault\n"
line_of_refuted WriteFault = codes "write fault\n"
line_of_refuted NoMemory = codes "no memory\n"
