-- Reading the trace of a file.
use Rattle.std.specs.Prelude.{◌≡◌, ◌≤◌, ◌<◌, ◌+◌, ℕ, List, length, take}
use Rattle.q_io.specs.declared.error.DeviceError.{DeviceError}
use Rattle.q_io.specs.declared.error.DeviceError.TheVariants as device
use Rattle.q_qrp.specs.declared.error.TraceError.{TraceError}
use Rattle.q_qrp.specs.declared.error.TraceError.TheVariants as reading
use Rattle.q_qrp.specs.Offences.{Offence}
use Rattle.q_qrp.specs.Scanning.{Scan, HasRead}
use Rattle.q_run_extract.specs.declared.trace_file.TraceFault.{TraceFault}
use Rattle.q_run_extract.specs.declared.trace_file.TraceFault.TheVariants.{Refused, Fault, NoMemory}

abbrev pub device_error : DeviceError → TraceFault
device_error device.Failed = Fault
device_error device.NoMemory = NoMemory

abbrev pub trace_error : TraceError → TraceFault
trace_error (reading.Refused n c) = Refused n c
trace_error reading.NoMemory = NoMemory

-- the reader has so many bytes, within the limit
pub record IsReading (taken : ℕ) (s : Scan) : Type 0 where
  pub bytes : List ℕ
  pub has_read : HasRead 1099511627776 bytes s
  pub all : length bytes ≡ taken
  pub within : taken ≤ 1099511627776

-- the reader has the file's bytes up to a place
pub record HasFront (file : List ℕ) (place : ℕ) (s : Scan) : Type 0 where
  pub front : HasRead 1099511627776 (take place file) s
  pub within : place ≤ length file

-- the reader has n bytes more of the file; where n is 0, it has read all that counts: the file, or up to the verdict
pub record HasFed (file : List ℕ) (place n : ℕ) (old new : Scan) : Type 0 where
  pub further : 0 < n → HasFront file place old → HasFront file (place + n) new
  pub end : HasFront file place old → n ≡ 0 → HasRead 1099511627776 file new

-- a refusal is the first offence of the file; the others may come at any time
abbrev pub IsRefused : TraceFault → List ℕ → Type 0
IsRefused (Refused n c) file = Offence 1099511627776 file n c
IsRefused Fault file = Unit {0}
IsRefused NoMemory file = Unit {0}
