-- What is said and left where a proof is read, by its notes.
use Rattle.std.specs.Prelude.{◌≡◌, ◌⊎◌, ℕ, List, Option, Some}
use Rattle.q_logic.specs.Prelude.{CertificateView}
use Rattle.q_io.specs.Files.{Disk}
use Rattle.q_io.specs.declared.error.DeviceError.{DeviceError}
use Rattle.q_io.specs.declared.error.DeviceError.TheVariants as device
use Rattle.q_herbrand.specs.Disproved.{IsDisproved}
use Rattle.q_command.specs.Texts.{HoldsCircuits, MayHoldCircuits}
use Rattle.q_run_disprove.specs.declared.certified.Certified.{Certified}
use Rattle.q_run_disprove.specs.declared.certified.Certified.TheVariants as certified
use Rattle.q_run_disprove.specs.declared.disproved.Disproved.{Disproved}
use Rattle.q_run_disprove.specs.declared.disproved.Disproved.TheVariants as outcome
use Rattle.q_run_disprove.specs.declared.notes.Notes.{Notes}
use Rattle.q_run_disprove.specs.declared.notes.Notes.TheVariants as notes

-- what writing the certificate leaves
abbrev pub Puts : Certified → ℕ → CertificateView → List ℕ → Disk → Option Disk → Type 0
Puts (certified.False k) steps made name before after = (k ≡ steps) × ((gates : ℕ) × HoldsCircuits made gates name before after)
Puts (certified.Extended line) steps made name before after = ⊥
Puts (certified.Undisproved o) steps made name before after = ⊥
Puts certified.WriteFault steps made name before after = MayHoldCircuits made name before after
Puts certified.NoMemory steps made name before after = (after ≡ Some before) ⊎ MayHoldCircuits made name before after

abbrev pub failed_write : DeviceError → Certified
failed_write device.Failed = certified.WriteFault
failed_write device.NoMemory = certified.NoMemory

-- this is said, and no file changes
abbrev pub SaysOnly : Certified → Certified → Disk → Option Disk → Type 0
SaysOnly due o before after = (o ≡ due) × (after ≡ Some before)

-- where so many steps lead to the empty clause
abbrev pub Settles : Notes → ℕ → Certified → List ℕ → Disk → Option Disk → Type 0
Settles notes.Unkept steps o name before after = SaysOnly certified.NoMemory o before after
Settles (notes.Kept F t) steps o name before after =
    SaysOnly certified.NoMemory o before after ⊎ ((made : CertificateView) × IsDisproved F t made × Puts o steps made name before after)
Settles (notes.Extended line) steps o name before after = SaysOnly (certified.Extended line) o before after

-- where a proof is read
abbrev pub SettlesAll : Disproved → Notes → Certified → List ℕ → Disk → Option Disk → Type 0
SettlesAll (outcome.False k) ns o name before after = Settles ns k o name before after
SettlesAll (outcome.RefusedLine k c) ns o name before after = SaysOnly (certified.Undisproved (outcome.RefusedLine k c)) o before after
SettlesAll outcome.RefusedEnd ns o name before after = SaysOnly (certified.Undisproved outcome.RefusedEnd) o before after
SettlesAll (outcome.RefusedInput k c) ns o name before after = SaysOnly (certified.Undisproved (outcome.RefusedInput k c)) o before after
SettlesAll outcome.ReadFault ns o name before after = SaysOnly (certified.Undisproved outcome.ReadFault) o before after
SettlesAll outcome.NoMemory ns o name before after = SaysOnly (certified.Undisproved outcome.NoMemory) o before after
