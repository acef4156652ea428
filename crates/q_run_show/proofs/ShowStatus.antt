-- When each status of `annotate` of a refutation comes.
use Rattle.std.proofs.Common.{◌≡◌, ◌≢◌, ◌⊎◌, inl, inr, ◌∙◌, refl, sym, ap, subst, ℕ, Bool, [], length, unwrap_or, Option, None, Some}
use Rattle.std.proofs.Math.Seq.{take-length}
use Rattle.q_io.specs.Files.{Disk, bytes_at}
use Rattle.q_shares.specs.Shares.{Share}
use Rattle.q_refutation.proofs.SharedRefuting.{number-shared}
use Rattle.q_logic.specs.Prelude.{standard}
use Rattle.q_command.specs.Checks.{IsNoFormula, IsUnverified, MayCome}
use Rattle.q_command.specs.Parts.{share_of}
use Rattle.q_command.specs.Sinks.{SinkView, IsDue}
use Rattle.q_command.specs.Statuses.{status_of}
use Rattle.q_command.specs.declared.outcome.Outcome.{Outcome}
use Rattle.q_command.specs.declared.outcome.Outcome.TheVariants as outcome
use Rattle.q_command.specs.declared.part.Part.{Part}
use Rattle.q_command.specs.declared.status.Status.{Status}
use Rattle.q_command.specs.declared.status.Status.TheVariants as status
use Rattle.q_command.proofs.ToldLaws.{ToldLaws, exact}
use Rattle.q_run_annotate.specs.AnnotatedLines.{status_of_annotated}
use Rattle.q_run_annotate.specs.Annotates.{IsUntouched}
use Rattle.q_run_annotate.specs.declared.annotated.Annotated.{Annotated}
use Rattle.q_run_annotate.specs.declared.annotated.Annotated.TheVariants.{Written, Unverified, WriteFault, NoMemory}
use Rattle.q_run_annotate.proofs.AnnotateStatus.{annotate-usage}
use Rattle.q_run_disprove.specs.SharedDisproofs.{IsNoShareDisproof, IsShareDisproof, PartDisprovesExactly, PartSays}
use Rattle.q_run_disprove.proofs.DisproveStatus.{due, faulty, log-stays, input-stays}
use Rattle.q_run_disprove.proofs.SharedStatus.{part-answers}
use Rattle.q_run_show.specs.Shows.{HoldsShown, MayHoldShown, NotShown, ShowFiles, Shows, ShowsExactly, told, two_read}

done-stays : MayCome status.Done → ⊥
done-stays (inl a) = cc
done-stays (inr (inl a)) = cc
done-stays (inr (inr a)) = cc

-- a sink to which nothing was put
quiet : SinkView
quiet = record { written = None; faults = 0; wants = 0 }

module _ (j : Share) (given : Status) (n : ShowFiles) (binary : Bool) (before : Disk) (after : Option Disk) where
  abbrev Result : Type 0
  Result = ShowsExactly j given n binary before after

  abbrev Disproof : Type 0
  Disproof = IsShareDisproof j (two_read n) binary before

  abbrev NoDisproof : Type 0
  NoDisproof = IsNoShareDisproof j (two_read n) binary before

  -- what was written refutes
  shown-disproof : (k : ℕ) → HoldsShown j k n binary before after → Disproof
  shown-disproof k h =
      let s = h.shown in
      let t = s.holds in
      record { formula = s.formula; is_input = s.is_input; holds = number-shared j standard 0 s.formula _ k t.refutes }

  -- the same statuses as those of `disprove`, where no file has changed
  said : (o : Outcome) → PartSays j o (two_read n) binary before → given ≡ status_of o → PartDisprovesExactly j given (two_read n) binary before (Some before)
  said o h e = part-answers j given (two_read n) binary before (Some before) o quiet quiet (h, refl) (inl e)

  -- of these three statuses none is another one
  untouched-not : (s : Status) → given ≡ s → s ≢ status.LogRefused → s ≢ status.InputRefused → s ≢ status.ReadFault → IsUntouched given → ⊥
  untouched-not s e l i r (inl a) = l (sym e ∙ a)
  untouched-not s e l i r (inr (inl a)) = i (sym e ∙ a)
  untouched-not s e l i r (inr (inr a)) = r (sym e ∙ a)

  whole : (k : ℕ) → HoldsShown j k n binary before after → given ≡ status.Done → Result
  whole k h e =
      let p : Disproof = shown-disproof k h in
      let x = said (outcome.Verified k) (let s = h.shown in let t = s.holds in record { formula = s.formula; is_input = s.is_input; holds = t.refutes }) e in
      record {
        done = due given status.Done Disproof e p;
        written = λ y. (k, h);
        log_refused = x.log_refused;
        input_refused = x.input_refused;
        untouched = λ y. absurd (untouched-not status.Done e (λ z. cc) (λ z. cc) (λ z. cc) y);
        left = λ y. absurd (elim y [ inl a ↦ (let w : status.Done ≡ status.WriteFault = sym e ∙ a in cc) | inr a ↦ (let w : status.Done ≡ status.NoMemory = sym e ∙ a in cc) ]);
      }

  fault : MayCome given → (given ≡ status.ReadFault → after ≡ Some before) →
      ((given ≡ status.WriteFault) ⊎ (given ≡ status.NoMemory) → (after ≡ Some before) ⊎ MayHoldShown j n binary before after) → Result
  fault m same l = record {
    done = faulty given status.Done Disproof m done-stays;
    written = λ e. absurd (done-stays (subst MayCome e m));
    log_refused = faulty given status.LogRefused NoDisproof m log-stays;
    input_refused = faulty given status.InputRefused (IsNoFormula (bytes_at before n.input)) m input-stays;
    untouched = λ x. elim x [
      | inl a ↦ absurd (log-stays (subst MayCome a m))
      | inr b ↦ elim b [ inl a ↦ absurd (input-stays (subst MayCome a m)) | inr a ↦ same a ]
    ];
    left = l;
  }

  -- nothing is written
  unwritten : (o : Outcome) → NotShown j o n binary before → after ≡ Some before → given ≡ status_of o → given ≢ status.Done → Result
  unwritten o h same e d =
      let x = said o h.1 e in
      record {
        done = x.verified;
        written = λ y. absurd (d y);
        log_refused = x.log_refused;
        input_refused = x.input_refused;
        untouched = λ y. same;
        left = λ y. inl same;
      }

  not-done : (o : Outcome) → IsUnverified o → given ≡ status_of o → given ≢ status.Done
  not-done (outcome.Verified k) u e d = u
  not-done (outcome.RefusedLine k c) u e d = let w : status.LogRefused ≡ status.Done = sym e ∙ d in cc
  not-done (outcome.RefusedEnd c) u e d = let w : status.LogRefused ≡ status.Done = sym e ∙ d in cc
  not-done (outcome.RefusedInput r k c) u e d = let w : status.InputRefused ≡ status.Done = sym e ∙ d in cc
  not-done outcome.ReadFault u e d = let w : status.ReadFault ≡ status.Done = sym e ∙ d in cc
  not-done outcome.NoMemory u e d = let w : status.NoMemory ≡ status.Done = sym e ∙ d in cc

  -- what stands where the line could not be put
  stands : (o : Annotated) → Shows j o n binary before after → (after ≡ Some before) ⊎ MayHoldShown j n binary before after
  stands (Written k) h =
      let b = h.holds in
      inr (record {
        steps = k;
        text = h.text;
        shown = h.shown;
        front = record {
          disk = b.disk;
          told = b.told;
          bytes = inr (length h.text, ap (λ x. unwrap_or x []) b.bytes ∙ sym (take-length h.text));
          others = b.others;
        };
      })
  stands (Unverified o) h = inl h.1
  stands WriteFault h = inr h
  stands NoMemory h = h

  due-answers : (o : Annotated) → Shows j o n binary before after → given ≡ status_of_annotated o → Result
  due-answers (Written k) h e = whole k h e
  due-answers (Unverified o) h e = unwritten o h.0 h.1 e (not-done o h.0.0 e)
  due-answers WriteFault h e = fault (inr (inl e)) (λ x. let w : status.WriteFault ≡ status.ReadFault = sym e ∙ x in cc) (λ x. inr h)
  due-answers NoMemory h e = fault (inr (inr e)) (λ x. let w : status.NoMemory ≡ status.ReadFault = sym e ∙ x in cc) (λ x. h)

  pub show-answers : (o : Annotated) (old new : SinkView) → Shows j o n binary before after → IsDue (status_of_annotated o) given old new → Result
  show-answers o old new h (inl e) = due-answers o h e
  show-answers o old new h (inr (inl e)) = fault (inr (inl e.0)) (λ x. let w : status.WriteFault ≡ status.ReadFault = sym e.0 ∙ x in cc) (λ x. stands o h)
  show-answers o old new h (inr (inr e)) = fault (inr (inr e.0)) (λ x. let w : status.NoMemory ≡ status.ReadFault = sym e.0 ∙ x in cc) (λ x. stands o h)

pub laws : (n : ShowFiles) (binary : Bool) (p : Part) → ToldLaws (told n binary p)
laws n binary p = record {
  gives = λ o given disk after old new h d. show-answers (share_of p) given n binary disk after o old new h d;
  no_usage = annotate-usage;
  answers = λ given disk after m g. (exact given status.Done _ m g.done, exact given status.LogRefused _ m g.log_refused);
}
