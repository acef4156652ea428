-- The line and the status of `validate`, by its outcome.
use Rattle.std.specs.Prelude.{ℕ, List, [], ◌∷◌, ◌++◌, codes, decimal}
use Rattle.std.specs.Fmt.{signed_decimal}
use Rattle.q_logic.specs.Prelude.{Literal, number_of}
use Rattle.q_command.specs.Unfits.{line_of_unfit}
use Rattle.q_command.specs.declared.status.Status.{Status}
use Rattle.q_command.specs.declared.status.Status.TheVariants as status
use Rattle.q_run_validate.specs.declared.validated.Validated.{Validated}
use Rattle.q_run_validate.specs.declared.validated.Validated.TheVariants.{Valid, Invalid, Unknown, RefusedInput, RefusedText, RefusedCircuits, ReadFault, NoMemory}

abbrev pub literal_text : Literal → List ℕ
literal_text k = codes " " ++ signed_decimal (number_of k)

abbrev pub literals_end : List Literal → List ℕ
literals_end [] = codes "\n"
literals_end (k ∷ ks) = literal_text k ++ literals_end ks

-- the word, and a space and a number for each literal
abbrev pub invalid_line : List Literal → List ℕ
invalid_line ks = codes "invalid" ++ literals_end ks

abbrev pub status_of_validated : Validated → Status
status_of_validated Valid = status.Done
status_of_validated (Invalid text) = status.Invalid
status_of_validated Unknown = status.Unknown
status_of_validated (RefusedInput n c) = status.InputRefused
status_of_validated (RefusedText n c) = status.CircuitsRefused
status_of_validated (RefusedCircuits w) = status.CircuitsRefused
status_of_validated ReadFault = status.ReadFault
status_of_validated NoMemory = status.NoMemory

abbrev pub line_of_validated : Validated → List ℕ
line_of_validated Valid = codes "valid\n"
line_of_validated (Invalid text) = text.items
line_of_validated Unknown = codes "unknown\n"
line_of_validated (RefusedInput n c) = codes "input IN line " ++ decimal n ++ codes " cause " ++ decimal c ++ codes "\n"
line_of_validated (RefusedText n c) = codes "circuits line " ++ decimal n ++ codes " cause " ++ decimal c ++ codes "\n"
line_of_validated (RefusedCircuits w) = line_of_unfit w
line_of_validated ReadFault = codes "read fault\n"
line_of_validated NoMemory = codes "no memory\n"
