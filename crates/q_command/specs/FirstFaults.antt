-- Which file a fault is of: a command comes to its files in an order, and to each of them only where those before are as they
-- have to be. So no fault comes in place of the refusal of an earlier file.
use Rattle.std.specs.Prelude.{◌⊎◌, ℕ, List, [], ◌∷◌, Option, IfSome}
use Rattle.q_io.specs.Files.{Disk, RoseFor}

-- a file to which a command comes: its name, and what is so of the files, before and after, of a command that has come to it
pub record Turn : Type 1 where
  pub name : List ℕ
  pub reached : Disk → Option Disk → Type 0

-- the count of faults of a file rose to which the command had come, as far as the files tell what they hold
abbrev pub FaultAt : {X : Type 0} → (X → List ℕ → ℕ) → List Turn → Option Disk → Option Disk → X → X → Type 0
FaultAt faults [] held end before after = ⊥
FaultAt faults (t ∷ ts) held end before after =
    (IfSome held (λ disk. t.reached disk end) × RoseFor faults t.name before after) ⊎ FaultAt faults ts held end before after

-- a file that comes first
abbrev pub first_of : List ℕ → Turn
first_of name = record { name = name; reached = λ disk end. Unit {0} }

-- a file that comes where this is so of what all files hold before
abbrev pub where_so : (Disk → Type 0) → List ℕ → Turn
where_so P name = record { name = name; reached = λ disk end. P disk }

-- files of which nothing more is told
abbrev pub untold : List (List ℕ) → List Turn
untold [] = []
untold (name ∷ names) = first_of name ∷ untold names
