-- The names of the three files of a log.
use Rattle.std.specs.Prelude.{ℕ, List, [], ◌∷◌, Option, IfSome}
use Rattle.q_io.specs.Files.{Disk, bytes_at}
use Rattle.q_command.specs.declared.names.Names.{Names}

-- the names of IN, OUT and LOG
pub record ThreeNames : Type 0 where
  pub input : List ℕ
  pub output : List ℕ
  pub log : List ℕ

abbrev pub three : List ℕ → List ℕ → List ℕ → ThreeNames
three i o l = record { input = i; output = o; log = l }

abbrev pub three_of : Names → ThreeNames
three_of n = three n.input.now n.output.now n.log.now

-- the names of IN and OUT
abbrev pub ends_of : ThreeNames → List (List ℕ)
ends_of n = n.input ∷ n.output ∷ []

-- the names of the files that are read
abbrev pub names_read : ThreeNames → List (List ℕ)
names_read n = n.input ∷ n.output ∷ n.log ∷ []

-- of the bytes of the three files this is so, where the files tell what they hold
abbrev pub OfThree : Option Disk → ThreeNames → (List ℕ → List ℕ → List ℕ → Type 0) → Type 0
OfThree held n P = IfSome held (λ disk. P (bytes_at disk n.input) (bytes_at disk n.output) (bytes_at disk n.log))
