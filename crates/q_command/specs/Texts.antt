-- Files that are read whole, and circuits as files hold them.
use Rattle.std.specs.Prelude.{◌≡◌, ◌⊎◌, ◌<◌, ◌≤◌, ℕ, List, ◌++◌, length, take, drop, Option, Some, slice_index}
use Rattle.q_logic.specs.Prelude.{CertificateView}
use Rattle.q_io.specs.Files.{Disk, HoldsBytes, MayHoldFront}
use Rattle.q_io.specs.declared.error.DeviceError.{DeviceError}
use Rattle.q_io.specs.declared.error.DeviceError.TheVariants as device
use Rattle.q_aiger.specs.Circuits.{Offence}
use Rattle.q_aiger.specs.Writing.{IsCanonical}
use Rattle.q_aiger.specs.declared.error.AigerError.{AigerError}
use Rattle.q_aiger.specs.declared.error.AigerError.TheVariants as aiger
use Rattle.q_command.specs.declared.circuits.CircuitsError.{CircuitsError}
use Rattle.q_command.specs.declared.circuits.CircuitsError.TheVariants.{Refused, Fault, NoMemory}

-- the front of a file that was read
pub record IsFront (file : List ℕ) (place : ℕ) (text : List ℕ) : Type 0 where
  pub is : text ≡ take place file
  pub within : place ≤ length file

-- some line ends in the text
pub record HasLineEnd (text : List ℕ) : Type 0 where
  pub place : ℕ
  pub within : place < length text
  pub lf : slice_index text place ≡ 10

-- a front of a file, longer than any file may be, in which the first line ends
pub record IsLongFront (file text : List ℕ) : Type 0 where
  pub rest : List ℕ
  pub is : file ≡ text ++ rest
  pub long : 1099511627776 < length text
  pub end : HasLineEnd text

-- the bytes of a file, or so many of them that the others do not matter
abbrev pub IsTextOf : List ℕ → List ℕ → Type 0
IsTextOf file text = (text ≡ file) ⊎ IsLongFront file text

-- n bytes of the file were put behind the text
pub record HasAppended (file : List ℕ) (place n : ℕ) (old new : List ℕ) : Type 0 where
  pub is : new ≡ old ++ take n (drop place file)
  pub within : n ≤ length (drop place file)
  pub end : n ≡ 0 → length file ≤ place

abbrev pub failed_read : DeviceError → CircuitsError
failed_read device.Failed = Fault
failed_read device.NoMemory = NoMemory

abbrev pub refused_text : AigerError → CircuitsError
refused_text (aiger.Refused k c) = Refused k c
refused_text aiger.NoMemory = NoMemory

-- why a file gives no circuits: a refusal is its first offence; the others may come at any time
abbrev pub IsNoText : CircuitsError → List ℕ → Type 0
IsNoText (Refused k c) bytes = Offence bytes k c
IsNoText Fault bytes = Unit {0}
IsNoText NoMemory bytes = Unit {0}

-- the file holds the canonical text of the circuits, with so many gates
abbrev pub HoldsCircuits : CertificateView → ℕ → List ℕ → Disk → Option Disk → Type 0
HoldsCircuits made gates name before after =
    (text : List ℕ) × IsCanonical made gates text × HoldsBytes name text before after

-- the file is as before, or holds a front of the text of the circuits
abbrev pub MayHoldCircuits : CertificateView → List ℕ → Disk → Option Disk → Type 0
MayHoldCircuits made name before after =
    (gates : ℕ) × (text : List ℕ) × IsCanonical made gates text × MayHoldFront name text before after

-- what stands where the circuits could not be written whole
abbrev pub LeavesCircuits : DeviceError → CertificateView → List ℕ → Disk → Option Disk → Type 0
LeavesCircuits device.Failed made name before after = MayHoldCircuits made name before after
LeavesCircuits device.NoMemory made name before after = (after ≡ Some before) ⊎ MayHoldCircuits made name before after
