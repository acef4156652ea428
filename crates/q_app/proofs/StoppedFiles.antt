-- What `simplify` says and leaves where an alarm may have stopped it.
use Rattle.std.proofs.Common.{◌≡◌, ◌∙◌, inl, inr, refl, ap, subst, ℕ, Bool, List, Option, Some, None, IfSome}
use Rattle.q_logic.specs.Prelude.{PrenexFormula, Rose}
use Rattle.q_io.specs.Files.{Disk, bytes_at}
use Rattle.q_sched.specs.Alarms.{AlarmView, IsHeard, Rang, UnlessRung, WasAsked, risen}
use Rattle.q_simplify.specs.declared.options.Options.{Options}
use Rattle.q_simplify.specs.declared.report.Report.{Report}
use Rattle.q_simplify.specs.declared.report.Ending.{Ending}
use Rattle.q_simplify.specs.Results.{SimplifiesUntil}
use Rattle.q_command.specs.Checks.{IsFileOf}
use Rattle.q_command.specs.Names.{ThreeNames}
use Rattle.q_command.specs.Sinks.{SinkView, IsDue}
use Rattle.q_command.specs.declared.status.Status.{Status}
use Rattle.q_command.specs.declared.status.Status.TheVariants as status
use Rattle.q_command.proofs.ToldLaws.{ToldLaws}
use Rattle.q_app.specs.Simplifying.{Ends, IsCutOff, IsEnded, Stops, StopsExactly, told_stopped}
use Rattle.q_app.specs.Statuses.{status_of_ending, status_of_simplified}
use Rattle.q_app.specs.Stopping.{IsSetAndHeard}
use Rattle.q_app.specs.declared.simplified.Simplified.{Simplified}
use Rattle.q_app.specs.declared.simplified.Simplified.TheVariants.{Written, RefusedInput, ReadFault, WriteFault, NoMemory}
use Rattle.q_app.proofs.CommandLines.{simplify-usage}
use Rattle.q_app.proofs.SimplifyStatus.{ended-not_refused, ended-not_read, ended-not_write, ended-not_memory}

-- the alarm was set before
pub unless-set : (P Q : Type 0) (a s b : AlarmView) → s.rang ≡ a.rang → UnlessRung s b P Q → UnlessRung a b P Q
unless-set P Q a s b e (inl h) = inl h
unless-set P Q a s b e (inr (z, h)) = inr (z ∙ ap risen e, h)

pub heard-set : (seconds : Option ℕ) (plain : Bool) (given : Status) (a s b : AlarmView) → s.asked ≡ a.asked → s.rang ≡ a.rang → s.limit ≡ seconds → s.is_plain ≡ plain → IsHeard s b → (IsEnded given → WasAsked s b) → IsSetAndHeard seconds plain given a b
heard-set seconds plain given a s b asked rang limit is_plain h w =
    record {
      limit = h.set.limit ∙ limit;
      is_plain = h.set.is_plain ∙ is_plain;
      rang = elim h.rang [ inl e ↦ inl (e ∙ rang) | inr z ↦ inr (z ∙ ap risen rang) ];
      asked = λ e. subst (λ (n : ℕ). Rose n b.asked) asked (w e);
    }

module _ (o : Options) (i on ln : List ℕ) where
  -- both files are written
  pub written-ends : (a b : AlarmView) (r : Report) (F : PrenexFormula) (h0 h1 h2 : Option Disk) → IfSome h0 (λ disk. IsFileOf (bytes_at disk i) F) → h1 ≡ h0 → IfSome h1 (λ disk. SimplifiesUntil a b o F r on ln disk h2) →
      UnlessRung a b (IfSome h0 (λ disk. Ends (Written r) o i on ln disk h2)) (IfSome h0 (λ disk. Stops (Written r) o i on ln disk h2))
  written-ends a b r F None h1 h2 f s l = inl tt
  written-ends a b r F (Some disk) h1 h2 f s l = go (subst (λ (h : Option Disk). IfSome h (λ d. SimplifiesUntil a b o F r on ln d h2)) s l)
    where
      go : SimplifiesUntil a b o F r on ln disk h2 → UnlessRung a b (Ends (Written r) o i on ln disk h2) (Stops (Written r) o i on ln disk h2)
      go (inl k) = inl (F, f, k)
      go (inr (z, k)) = inr (z, (F, f, k))

-- the status says that both files are written only where they are
pub ended-written : (due : Simplified) (given : Status) (old new : SinkView) → IsDue (status_of_simplified due) given old new → IsEnded given → (r : Report) × (due ≡ Written r)
ended-written due given old new (inl e) h = go due (subst (λ (s : Status). IsEnded s) e h)
  where
    go : (due : Simplified) → IsEnded (status_of_simplified due) → (r : Report) × (due ≡ Written r)
    go (Written r) h = (r, refl)
    go (RefusedInput n c) h = absurd (ended-not_refused status.InputRefused h refl)
    go ReadFault h = absurd (ended-not_read status.ReadFault h refl)
    go WriteFault h = absurd (ended-not_write status.WriteFault h refl)
    go NoMemory h = absurd (ended-not_memory status.NoMemory h refl)
ended-written due given old new (inr (inl e)) h = absurd (ended-not_write given h e.0)
ended-written due given old new (inr (inr e)) h = absurd (ended-not_memory given h e.0)

-- a run that was stopped
module _ (o : Options) (i on ln : List ℕ) (disk : Disk) (after : Option Disk) (given : Status) (old new : SinkView) where
  stops-due : (r : Report) → IsCutOff r o i on ln disk after → IsDue (status_of_ending r.ending) given old new → StopsExactly given o i on ln disk after
  stops-due r h (inl e) = record { written = (r, h); any = inl (e ∙ ap (λ (x : Ending). status_of_ending x) h.2.report.ending) }
  stops-due r h (inr (inl e)) = record { written = (r, h); any = inr (inr (inl e.0)) }
  stops-due r h (inr (inr e)) = record { written = (r, h); any = inr (inr (inr e.0)) }

  pub stops-answers : (due : Simplified) → Stops due o i on ln disk after → IsDue (status_of_simplified due) given old new → StopsExactly given o i on ln disk after
  stops-answers (Written r) h d = stops-due r h d
  stops-answers (RefusedInput n c) h d = absurd h
  stops-answers ReadFault h d = absurd h
  stops-answers WriteFault h d = absurd h
  stops-answers NoMemory h d = absurd h

pub laws-stopped : (n : ThreeNames) (o : Options) → ToldLaws (told_stopped n o)
laws-stopped n o = record {
  gives = λ due given disk after old new h d. stops-answers o n.input n.output n.log disk after given old new due h d;
  no_usage = simplify-usage;
  answers = λ given disk after m g. elim g.any [ inl e ↦ inl e | inr e ↦ inr (m e) ];
}
