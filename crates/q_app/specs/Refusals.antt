-- What is said of `simplify` where its input is refused, and where writing failed.
use Rattle.q_io.specs.declared.error.DeviceError.{DeviceError}
use Rattle.q_io.specs.declared.error.DeviceError.TheVariants as device
use Rattle.q_command.specs.declared.input.InputError.{InputError}
use Rattle.q_command.specs.declared.input.InputError.TheVariants as reading
use Rattle.q_app.specs.declared.simplified.Simplified.{Simplified}
use Rattle.q_app.specs.declared.simplified.Simplified.TheVariants as simplified

abbrev pub refusal_of : InputError → Simplified
refusal_of (reading.Refused n c) = simplified.RefusedInput n c
refusal_of reading.Fault = simplified.ReadFault
refusal_of reading.NoMemory = simplified.NoMemory

abbrev pub failure_of : DeviceError → Simplified
failure_of device.Failed = simplified.WriteFault
failure_of device.NoMemory = simplified.NoMemory
