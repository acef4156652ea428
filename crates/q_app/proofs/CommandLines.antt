-- Which outcomes of the commands here have which statuses, and the line of words that are no command.
use Rattle.std.proofs.Common.{◌≡◌, ◌≢◌, ◌⊎◌, inl, inr, refl, codes}
use Rattle.q_simplify.specs.declared.report.Ending.{Ending}
use Rattle.q_simplify.specs.declared.report.Ending.TheVariants as ending
use Rattle.q_app.specs.Statuses.{status_of_ending, status_of_simplified}
use Rattle.q_app.specs.RebuiltLines.{status_of_rebuilt}
use Rattle.q_app.specs.Generating.{status_of_generated}
use Rattle.q_app.specs.Rebuilds.{FaultsReading}
use Rattle.q_app.specs.Says.{SaysUsage}
use Rattle.q_command.specs.Devices.{Devices}
use Rattle.q_command.specs.Sinks.{IsSaid}
use Rattle.q_command.proofs.OutcomeStatus.{check-usage, check-read, check-write}
use Rattle.q_command.proofs.ToldLaws.{due-read, due-write}
use Rattle.q_command.specs.declared.status.Status.{Status}
use Rattle.q_command.specs.declared.status.Status.TheVariants as status
use Rattle.q_command.specs.declared.outcome.Outcome.TheVariants as outcome
use Rattle.q_app.specs.declared.simplified.Simplified.{Simplified}
use Rattle.q_app.specs.declared.simplified.Simplified.TheVariants as simplified
use Rattle.q_app.specs.declared.rebuilt.Rebuilt.{Rebuilt}
use Rattle.q_app.specs.declared.rebuilt.Rebuilt.TheVariants as rebuilt
use Rattle.q_app.specs.declared.generated.Generated.{Generated}
use Rattle.q_app.specs.declared.generated.Generated.TheVariants as generated

-- words that are no command
pub said-usage : (before after : Devices) (given : Status) → after.held ≡ before.held → IsSaid (codes "usage\n") status.Usage given before.sink after.sink → SaysUsage before given after
said-usage before after given same d =
    record {
      read_fault = λ e. let w : status.Usage ≡ status.ReadFault = due-read status.Usage given before.sink after.sink d.answer e in cc;
      write_fault = λ e. elim (due-write status.Usage given before.sink after.sink d.answer e) [ inl x ↦ cc | inr x ↦ x ];
      unchanged = same;
      line = d;
    }

-- which outcomes have these statuses
ending-not : (x : Ending) (s : Status) → (s ≡ status.Usage) ⊎ (s ≡ status.ReadFault) ⊎ (s ≡ status.WriteFault) → status_of_ending x ≢ s
ending-not ending.Settled s (inl h) e = cc
ending-not ending.Settled s (inr (inl h)) e = cc
ending-not ending.Settled s (inr (inr h)) e = cc
ending-not ending.True s (inl h) e = cc
ending-not ending.True s (inr (inl h)) e = cc
ending-not ending.True s (inr (inr h)) e = cc
ending-not ending.False s (inl h) e = cc
ending-not ending.False s (inr (inl h)) e = cc
ending-not ending.False s (inr (inr h)) e = cc
ending-not ending.Spent s (inl h) e = cc
ending-not ending.Spent s (inr (inl h)) e = cc
ending-not ending.Spent s (inr (inr h)) e = cc
ending-not ending.Stopped s (inl h) e = cc
ending-not ending.Stopped s (inr (inl h)) e = cc
ending-not ending.Stopped s (inr (inr h)) e = cc

pub simplify-usage : (o : Simplified) → status_of_simplified o ≢ status.Usage
simplify-usage (simplified.Written r) e = ending-not r.ending status.Usage (inl refl) e
simplify-usage (simplified.RefusedInput n c) e = cc
simplify-usage simplified.ReadFault e = cc
simplify-usage simplified.WriteFault e = cc
simplify-usage simplified.NoMemory e = cc

pub simplify-read : (o : Simplified) → status_of_simplified o ≡ status.ReadFault → o ≡ simplified.ReadFault
simplify-read (simplified.Written r) e = absurd (ending-not r.ending status.ReadFault (inr (inl refl)) e)
simplify-read (simplified.RefusedInput n c) e = cc
simplify-read simplified.ReadFault e = refl
simplify-read simplified.WriteFault e = cc
simplify-read simplified.NoMemory e = cc

pub simplify-write : (o : Simplified) → status_of_simplified o ≡ status.WriteFault → o ≡ simplified.WriteFault
simplify-write (simplified.Written r) e = absurd (ending-not r.ending status.WriteFault (inr (inr refl)) e)
simplify-write (simplified.RefusedInput n c) e = cc
simplify-write simplified.ReadFault e = cc
simplify-write simplified.WriteFault e = refl
simplify-write simplified.NoMemory e = cc

pub rebuild-usage : (o : Rebuilt) → status_of_rebuilt o ≢ status.Usage
rebuild-usage (rebuilt.Written n) e = cc
rebuild-usage (rebuilt.Unverified o) e = check-usage o e
rebuild-usage (rebuilt.RefusedText n c) e = cc
rebuild-usage (rebuilt.RefusedCircuits w) e = cc
rebuild-usage rebuilt.FalseOutput e = cc
rebuild-usage rebuilt.ReadFault e = cc
rebuild-usage rebuilt.WriteFault e = cc
rebuild-usage rebuilt.NoMemory e = cc

pub rebuild-read : (o : Rebuilt) → status_of_rebuilt o ≡ status.ReadFault → FaultsReading o
rebuild-read (rebuilt.Written n) e = cc
rebuild-read (rebuilt.Unverified o) e = inr (let q : o ≡ outcome.ReadFault = check-read o e in cc)
rebuild-read (rebuilt.RefusedText n c) e = cc
rebuild-read (rebuilt.RefusedCircuits w) e = cc
rebuild-read rebuilt.FalseOutput e = cc
rebuild-read rebuilt.ReadFault e = inl refl
rebuild-read rebuilt.WriteFault e = cc
rebuild-read rebuilt.NoMemory e = cc

pub rebuild-write : (o : Rebuilt) → status_of_rebuilt o ≡ status.WriteFault → o ≡ rebuilt.WriteFault
rebuild-write (rebuilt.Written n) e = cc
rebuild-write (rebuilt.Unverified o) e = absurd (check-write o e)
rebuild-write (rebuilt.RefusedText n c) e = cc
rebuild-write (rebuilt.RefusedCircuits w) e = cc
rebuild-write rebuilt.FalseOutput e = cc
rebuild-write rebuilt.ReadFault e = cc
rebuild-write rebuilt.WriteFault e = refl
rebuild-write rebuilt.NoMemory e = cc

pub generate-usage : (o : Generated) → status_of_generated o ≢ status.Usage
generate-usage (generated.Written n) e = cc
generate-usage generated.WriteFault e = cc
generate-usage generated.NoMemory e = cc

pub generate-read : (o : Generated) → status_of_generated o ≢ status.ReadFault
generate-read (generated.Written n) e = cc
generate-read generated.WriteFault e = cc
generate-read generated.NoMemory e = cc

pub generate-write : (o : Generated) → status_of_generated o ≡ status.WriteFault → o ≡ generated.WriteFault
generate-write (generated.Written n) e = cc
generate-write generated.WriteFault e = refl
generate-write generated.NoMemory e = cc
