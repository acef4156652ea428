-- Reading the formula of a file.
use Rattle.std.specs.Prelude.{◌≡◌, ◌≤◌, ◌+◌, ℕ, List, length, take}
use Rattle.q_logic.specs.Prelude.{standard}
use Rattle.q_io.specs.declared.error.DeviceError.{DeviceError}
use Rattle.q_io.specs.declared.error.DeviceError.TheVariants as device
use Rattle.q_dimacs.specs.declared.error.ReadError.{ReadError}
use Rattle.q_dimacs.specs.declared.error.ReadError.TheVariants as reading
use Rattle.q_dimacs.specs.Offences.{Offence}
use Rattle.q_dimacs.specs.Scanning.{Scan, HasRead}
use Rattle.q_command.specs.declared.input.InputError.{InputError}
use Rattle.q_command.specs.declared.input.InputError.TheVariants.{Refused, Fault, NoMemory}

abbrev pub device_error : DeviceError → InputError
device_error device.Failed = Fault
device_error device.NoMemory = NoMemory

abbrev pub read_error : ReadError → InputError
read_error (reading.Refused n c) = Refused n c
read_error reading.NoMemory = NoMemory

-- the reader has so many bytes, within the limit
pub record IsReading (taken : ℕ) (s : Scan) : Type 0 where
  pub bytes : List ℕ
  pub has_read : HasRead standard bytes s
  pub all : length bytes ≡ taken
  pub within : taken ≤ 1099511627776

-- the reader has the file's bytes up to a place
pub record HasFront (file : List ℕ) (place : ℕ) (s : Scan) : Type 0 where
  pub front : HasRead standard (take place file) s
  pub within : place ≤ length file

-- the reader has n bytes more of the file
pub record HasFed (file : List ℕ) (place n : ℕ) (old new : Scan) : Type 0 where
  pub further : HasFront file place old → HasFront file (place + n) new
  pub end : n ≡ 0 → length file ≤ place

-- a refusal is the first offence of the file; the others may come at any time
abbrev pub IsRefused : InputError → List ℕ → Type 0
IsRefused (Refused n c) file = Offence standard file n c
IsRefused Fault file = Unit {0}
IsRefused NoMemory file = Unit {0}
