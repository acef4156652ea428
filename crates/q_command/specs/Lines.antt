-- The line that `check` puts, by its outcome.
use Rattle.std.specs.Prelude.{ℕ, List, ◌++◌, codes, decimal}
use Rattle.q_command.specs.declared.outcome.Role.TheVariants.{In, Out}
use Rattle.q_command.specs.declared.outcome.Outcome.{Outcome}
use Rattle.q_command.specs.declared.outcome.Outcome.TheVariants.{Verified, RefusedLine, RefusedEnd, RefusedInput, ReadFault, NoMemory}

abbrev pub line_of : Outcome → List ℕ
line_of (Verified n) = codes "verified " ++ decimal n ++ codes "\n"
line_of (RefusedLine n c) = codes "refused line " ++ decimal n ++ codes " cause " ++ decimal c ++ codes "\n"
line_of (RefusedEnd c) = codes "refused end cause " ++ decimal c ++ codes "\n"
line_of (RefusedInput In n c) = codes "input IN line " ++ decimal n ++ codes " cause " ++ decimal c ++ codes "\n"
line_of (RefusedInput Out n c) = codes "input OUT line " ++ decimal n ++ codes " cause " ++ decimal c ++ codes "\n"
line_of ReadFault = codes "read fault\n"
line_of NoMemory = codes "no memory\n"
