-- What the calls of a store of named files do, and those of a sink.
use Rattle.std.specs.Prelude.{◌≡◌, ◌≢◌, ◌⊎◌, ◌<◌, ◌≤◌, ℕ, List, [], ◌∷◌, ◌++◌, length, take, drop, Option, Some, unwrap_or}
use Rattle.std.specs.Ordering.{nat_cmp}
use Rattle.std.specs.Cmp.Lexicographic.{slice_cmp}
use Rattle.std.specs.FinMap as map
use Rattle.q_logic.specs.Prelude.{Rose}

-- a finite map from names, as bytes, to bytes
abbrev pub Disk : Type 0
Disk = map.FinMap (slice_cmp nat_cmp) (List ℕ)

-- the bytes of a name; one that is not held counts as a file of no bytes
abbrev pub bytes_at : Disk → List ℕ → List ℕ
bytes_at disk name = unwrap_or (map.get disk name) []

-- each other name is as before
abbrev pub OthersStay : List ℕ → Disk → Disk → Type 0
OthersStay name before after = (q : List ℕ) → q ≢ name → map.get after q ≡ map.get before q

-- the count of faults of a name rose in a call
abbrev pub RoseFor : {X : Type 0} → (X → List ℕ → ℕ) → List ℕ → X → X → Type 0
RoseFor faults name before after = Rose (faults before name) (faults after name)

-- the count of faults of some of these names rose in a call
abbrev pub RoseAmong : {X : Type 0} → (X → List ℕ → ℕ) → List (List ℕ) → X → X → Type 0
RoseAmong faults [] before after = ⊥
RoseAmong faults (name ∷ []) before after = RoseFor faults name before after
RoseAmong faults (name ∷ other ∷ names) before after =
    RoseFor faults name before after ⊎ RoseAmong faults (other ∷ names) before after

-- no count of faults fell, for any name
pub record Later {X : Type 0} (read_faults write_faults : X → List ℕ → ℕ) (before after : X) : Type 0 where
  pub read : (q : List ℕ) → read_faults before q ≤ read_faults after q
  pub write : (q : List ℕ) → write_faults before q ≤ write_faults after q

-- a call that only reads: what the files hold is as before, and no count of faults fell
pub record OnlyReads {X : Type 0} (held : X → Option Disk) (read_faults write_faults : X → List ℕ → ℕ) (before after : X) : Type 0 where
  pub same : held after ≡ held before
  pub later : Later read_faults write_faults before after

-- how often reading has failed, and how often creating or appending
pub record FaultCounts : Type 0 where
  pub read : ℕ
  pub write : ℕ

-- a read of n bytes from a place on
pub record Reads (disk : Disk) (name : List ℕ) (place : ℕ) (old new : List ℕ) (n : ℕ) : Type 0 where
  pub copied : take n new ≡ take n (drop place (bytes_at disk name))
  pub left : n ≤ length (drop place (bytes_at disk name))
  pub end : n ≡ 0 → 0 < length old → length (bytes_at disk name) ≤ place

-- after a create that succeeded: the name holds no bytes
pub record Empties (name : List ℕ) (before : Disk) (after : Option Disk) : Type 0 where
  pub disk : Disk
  pub told : after ≡ Some disk
  pub bytes : map.get disk name ≡ Some []
  pub others : OthersStay name before disk

-- after one that failed: it is as before, or holds no bytes
pub record MayEmpty (name : List ℕ) (before : Disk) (after : Option Disk) : Type 0 where
  pub disk : Disk
  pub told : after ≡ Some disk
  pub bytes : (map.get disk name ≡ map.get before name) ⊎ (map.get disk name ≡ Some [])
  pub others : OthersStay name before disk

-- after an append: these bytes stand at the name's end
pub record Appends (name more : List ℕ) (before : Disk) (after : Option Disk) : Type 0 where
  pub disk : Disk
  pub told : after ≡ Some disk
  pub bytes : map.get disk name ≡ Some (bytes_at before name ++ more)
  pub others : OthersStay name before disk

-- after one that failed: a prefix of them stands there
pub record AppendsPart (name more : List ℕ) (before : Disk) (after : Option Disk) : Type 0 where
  pub disk : Disk
  pub told : after ≡ Some disk
  pub part : ℕ
  pub bytes : bytes_at disk name ≡ bytes_at before name ++ take part more
  pub others : OthersStay name before disk

-- the file holds this text, and all others are as before
pub record HoldsBytes (name text : List ℕ) (before : Disk) (after : Option Disk) : Type 0 where
  pub disk : Disk
  pub told : after ≡ Some disk
  pub bytes : map.get disk name ≡ Some text
  pub others : OthersStay name before disk

-- the file is as before, or holds a front of this text
pub record MayHoldFront (name text : List ℕ) (before : Disk) (after : Option Disk) : Type 0 where
  pub disk : Disk
  pub told : after ≡ Some disk
  pub bytes : (map.get disk name ≡ map.get before name) ⊎ ((part : ℕ) × (bytes_at disk name ≡ take part text))
  pub others : OthersStay name before disk

-- after a put
abbrev pub GrowsBy : List ℕ → List ℕ → Option (List ℕ) → Type 0
GrowsBy more before after = after ≡ Some (before ++ more)

-- after one that failed: a prefix of the bytes was put
abbrev pub GrowsByPart : List ℕ → List ℕ → Option (List ℕ) → Type 0
GrowsByPart more before after = (part : ℕ) × (after ≡ Some (before ++ take part more))
