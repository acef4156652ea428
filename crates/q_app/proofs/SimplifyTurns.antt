-- Which file `simplify` could not write: LOG, or OUT where LOG is whole.
use Rattle.std.proofs.Common.{◌≡◌, ◌≤◌, ◌⊎◌, inl, inr, refl, ℕ, List, Option, IfSome}
use Rattle.q_logic.specs.Prelude.{PrenexFormula}
use Rattle.q_io.specs.Files.{Disk, RoseFor, bytes_at}
use Rattle.q_io.specs.declared.error.DeviceError.{DeviceError}
use Rattle.q_io.specs.declared.error.DeviceError.TheVariants as device
use Rattle.q_io.proofs.FaultCounts.{rose_later}
use Rattle.q_simplify.specs.Results.{LogStands}
use Rattle.q_command.specs.Checks.{IsFileOf}
use Rattle.q_command.specs.FirstFaults.{FaultAt}
use Rattle.q_command.specs.Names.{ThreeNames}
use Rattle.q_command.specs.declared.input.InputError.{InputError}
use Rattle.q_command.specs.declared.input.InputError.TheVariants as reading
use Rattle.q_command.proofs.FaultTurns.{at_once}
use Rattle.q_command.proofs.FilePieces.{at_same, if_some_2}
use Rattle.q_app.specs.Refusals.{failure_of, refusal_of}
use Rattle.q_app.specs.Simplifying.{turns_written}
use Rattle.q_app.specs.declared.simplified.Simplified.TheVariants.{WriteFault}

pub failed-is : (e : DeviceError) → failure_of e ≡ WriteFault → e ≡ device.Failed
failed-is device.Failed h = refl
failed-is device.NoMemory h = cc

pub refused-not_write : (e : InputError) → refusal_of e ≡ WriteFault → ⊥
refused-not_write (reading.Refused n c) h = cc
refused-not_write reading.Fault h = cc
refused-not_write reading.NoMemory h = cc

pub turn-failed : {X : Type 0} (write : X → List ℕ → ℕ) (n : ThreeNames) (F : PrenexFormula) (held still end : Option Disk) (before mid after : X) → still ≡ held → ((q : List ℕ) → write before q ≤ write mid q) → IfSome held (λ disk. IsFileOf (bytes_at disk n.input) F) →
    RoseFor write n.log mid after ⊎ (IfSome still (λ disk. LogStands F n.log end) × RoseFor write n.output mid after) → FaultAt write (turns_written n) held end before after
turn-failed write n F held still end before mid after e l f (inl r) =
    inl (at_once held, rose_later (write before n.log) (write mid n.log) (write after n.log) (l n.log) r)
turn-failed write n F held still end before mid after e l f (inr (s, r)) =
    inr (inl (
      if_some_2 held f (at_same _ still held e s) (λ disk x y. (F, x, y)),
      rose_later (write before n.output) (write mid n.output) (write after n.output) (l n.output) r,
    ))
