-- Counts of faults from one call to the next.
use Rattle.std.proofs.Common.{◌≤◌, arith, ℕ, List, refl, ◌∙◌, Option}
use Rattle.q_io.specs.Files.{Disk, Later, OnlyReads}
use Rattle.q_logic.specs.Prelude.{Rose}

-- nothing was called
pub later_at_once : {X : Type 0} (r w : X → List ℕ → ℕ) (a : X) → Later r w a a
later_at_once r w a = record { read = λ q. omega arith; write = λ q. omega arith }

pub reads_at_once : {X : Type 0} (held : X → Option Disk) (r w : X → List ℕ → ℕ) (a : X) → OnlyReads held r w a a
reads_at_once held r w a = record { same = refl; later = later_at_once r w a }

-- one call after the other
pub later_still : {X : Type 0} (r w : X → List ℕ → ℕ) (a b c : X) → Later r w a b → Later r w b c → Later r w a c
later_still r w a b c h k =
    record { read = λ q. omega (arith, h.read q, k.read q); write = λ q. omega (arith, h.write q, k.write q) }

pub reads_still : {X : Type 0} (held : X → Option Disk) (r w : X → List ℕ → ℕ) (a b c : X) → OnlyReads held r w a b → OnlyReads held r w b c → OnlyReads held r w a c
reads_still held r w a b c h k = record { same = k.same ∙ h.same; later = later_still r w a b c h.later k.later }

-- a count that rose in the second call rose over both
pub rose_later : (before mid now : ℕ) → before ≤ mid → Rose mid now → Rose before now
rose_later before mid now h r = grind (arith, r, h)
