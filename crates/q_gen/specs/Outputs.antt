-- What the file of a generated formula holds.
use Rattle.std.specs.Prelude.{◌≡◌, ◌⊎◌, ℕ, List, take, Option, Some}
use Rattle.std.specs.FinMap as map
use Rattle.q_io.specs.Files.{Disk, OthersStay, bytes_at}
use Rattle.q_dimacs.specs.Writing.{formula_text}
use Rattle.q_gen.specs.Generated.{Generated}

-- the canonical text of the formula of this seed and this size
pub record HoldsGenerated (name : List ℕ) (seed size : ℕ) (before : Disk) (after : Option Disk) : Type 0 where
  pub disk : Disk
  pub told : after ≡ Some disk
  pub bytes : map.get disk name ≡ Some (formula_text (Generated seed size))
  pub others : OthersStay name before disk

-- what it held before, or a front of this text
pub record HoldsGeneratedPart (name : List ℕ) (seed size : ℕ) (before : Disk) (after : Option Disk) : Type 0 where
  pub disk : Disk
  pub told : after ≡ Some disk
  pub bytes : (map.get disk name ≡ map.get before name) ⊎ ((part : ℕ) × (bytes_at disk name ≡ take part (formula_text (Generated seed size))))
  pub others : OthersStay name before disk
