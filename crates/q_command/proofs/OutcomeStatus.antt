-- Which outcomes of `check` have which statuses.
use Rattle.std.proofs.Common.{◌≡◌, ◌≢◌, refl}
use Rattle.q_command.specs.Statuses.{status_of}
use Rattle.q_command.specs.declared.status.Status.TheVariants as status
use Rattle.q_command.specs.declared.outcome.Outcome.{Outcome}
use Rattle.q_command.specs.declared.outcome.Outcome.TheVariants as outcome

pub check-usage : (o : Outcome) → status_of o ≢ status.Usage
check-usage (outcome.Verified n) e = cc
check-usage (outcome.RefusedLine n c) e = cc
check-usage (outcome.RefusedEnd c) e = cc
check-usage (outcome.RefusedInput r n c) e = cc
check-usage outcome.ReadFault e = cc
check-usage outcome.NoMemory e = cc

pub check-read : (o : Outcome) → status_of o ≡ status.ReadFault → o ≡ outcome.ReadFault
check-read (outcome.Verified n) e = cc
check-read (outcome.RefusedLine n c) e = cc
check-read (outcome.RefusedEnd c) e = cc
check-read (outcome.RefusedInput r n c) e = cc
check-read outcome.ReadFault e = refl
check-read outcome.NoMemory e = cc

pub check-write : (o : Outcome) → status_of o ≢ status.WriteFault
check-write (outcome.Verified n) e = cc
check-write (outcome.RefusedLine n c) e = cc
check-write (outcome.RefusedEnd c) e = cc
check-write (outcome.RefusedInput r n c) e = cc
check-write outcome.ReadFault e = cc
check-write outcome.NoMemory e = cc
