-- What a call does: a command of the program over files in memory, and what is copied out.
use Rattle.std.specs.Prelude.{◌≡◌, ◌≢◌, ◌⊎◌, ◌<◌, ◌≤◌, ℕ, List, [], ◌∷◌, length, take, Some, None, codes}
use Rattle.std.specs.FinMap as map
use Rattle.q_io.specs.Files.{Disk}
use Rattle.q_io.specs.Memory.{SteadyText}
use Rattle.q_command.specs.Statuses.{code_of}
use Rattle.q_command.specs.declared.status.Status.{Status}
use Rattle.q_command.specs.declared.status.Status.TheVariants as status
use Rattle.q_app.specs.Commands.{request}
use Rattle.q_command.specs.Devices.{Devices}
use Rattle.q_app.specs.Says.{Does}
use Rattle.q_c_library.specs.declared.Lengths.{Lengths}

-- files and a sink in memory, which never fail
abbrev pub memory : Disk → SteadyText → Devices
memory disk line =
    record { held = Some disk; read_faults = λ _. 0; write_faults = λ _. 0; sink = record { written = Some line.text; faults = 0; wants = line.wants } }

-- the command of these words is done over these files, and puts this line
abbrev pub Ran : List (List ℕ) → Disk → Status → Disk → SteadyText → Type 0
Ran words before given after line =
    Does (request words) (memory before (record { text = []; wants = 0 })) given (memory after line)

-- the words of a command over IN, OUT and LOG, and those that follow
abbrev pub over_three : List ℕ → List (List ℕ) → List (List ℕ)
over_three verb more = verb ∷ codes "IN" ∷ codes "OUT" ∷ codes "LOG" ∷ more

-- bytes stand at the front of a buffer where they fit, and their number is told either way
pub record Copied (bytes old new : List ℕ) (len : ℕ) : Type 0 where
  pub told : len ≡ length bytes
  pub fits : length bytes ≤ length old → take (length bytes) new ≡ bytes
  pub over : length old < length bytes → new ≡ old

-- IN holds these bytes, and no other name is held
pub record HoldsOne (input : List ℕ) (disk : Disk) : Type 0 where
  pub input_is : map.get disk (codes "IN") ≡ Some input
  pub alone : (name : List ℕ) → name ≢ codes "IN" → map.get disk name ≡ None

-- IN, OUT and LOG hold these bytes, and no other name is held
pub record HoldsThree (disk : Disk) (input output log : List ℕ) : Type 0 where
  pub input_is : map.get disk (codes "IN") ≡ Some input
  pub output_is : map.get disk (codes "OUT") ≡ Some output
  pub log_is : map.get disk (codes "LOG") ≡ Some log
  pub alone : (name : List ℕ) → name ≢ codes "IN" → name ≢ codes "OUT" → name ≢ codes "LOG" → map.get disk name ≡ None

-- the same with SKOLEM
pub record HoldsFour (disk : Disk) (input output log skolem : List ℕ) : Type 0 where
  pub input_is : map.get disk (codes "IN") ≡ Some input
  pub output_is : map.get disk (codes "OUT") ≡ Some output
  pub log_is : map.get disk (codes "LOG") ≡ Some log
  pub skolem_is : map.get disk (codes "SKOLEM") ≡ Some skolem
  pub alone : (name : List ℕ) → name ≢ codes "IN" → name ≢ codes "OUT" → name ≢ codes "LOG" → name ≢ codes "SKOLEM" → map.get disk name ≡ None

-- the command of these words is done over some files of which this holds
pub record RanOver (words : List (List ℕ)) (Given : Disk → Type 0) (given : Status) (after : Disk) (line : SteadyText) : Type 0 where
  pub before : Disk
  pub holds : Given before
  pub ran : Ran words before given after line

-- it is, and this holds of what it left; its status is told by its number
pub record Done (words : List (List ℕ)) (Given : Disk → Type 0) (code : ℕ) (Kept : Disk → List ℕ → Type 0) : Type 0 where
  pub given : Status
  pub after : Disk
  pub line : SteadyText
  pub over : RanOver words Given given after line
  pub code_is : code ≡ code_of given
  pub kept : Kept after line.text

-- it is, or memory was wanting for it and this holds
abbrev pub Called : List (List ℕ) → (Disk → Type 0) → ℕ → (Disk → List ℕ → Type 0) → Type 0 → Type 0
Called words Given code Kept Untouched = Done words Given code Kept ⊎ ((code ≡ code_of status.NoMemory) × Untouched)

-- no length is told
abbrev pub no_lengths : Lengths
no_lengths = record { output = 0; log = 0; line = 0 }
