-- A file to which a text goes in pieces.
use Rattle.std.specs.Prelude.{◌≡◌, ℕ, List, ◌++◌, Option, Some}
use Rattle.std.specs.FinMap as map
use Rattle.q_io.specs.Files.{Disk, OthersStay}

-- the file holds the first bytes of this text, and the others of it are pending
pub record HoldsSome (name text pending : List ℕ) (before : Disk) (after : Option Disk) : Type 0 where
  pub disk : Disk
  pub told : after ≡ Some disk
  pub bytes : List ℕ
  pub there : map.get disk name ≡ Some bytes
  pub whole : bytes ++ pending ≡ text
  pub others : OthersStay name before disk
