-- When each status of `annotate` comes.
use Rattle.std.proofs.Common.{◌≡◌, ◌≢◌, ◌⊎◌, inl, inr, ◌∙◌, sym, ap, ℕ, List, [], length, unwrap_or, Option, None, Some}
use Rattle.std.proofs.Math.Seq.{take-length}
use Rattle.q_logic.specs.Prelude.{PrenexFormula, standard}
use Rattle.q_io.specs.Files.{Disk, bytes_at}
use Rattle.q_hinted.specs.Logs.{Profile}
use Rattle.q_hinted.proofs.Profiles.{no-steps}
use Rattle.q_command.specs.Checks.{IsNoFormula, IsUnverified, MayCome, OfFormulas}
use Rattle.q_command.specs.Logs.{steps_of, IsRefusedPlain}
use Rattle.q_run_annotate.proofs.HintedLogSteps.{hinted-leads}
use Rattle.q_command.specs.Sinks.{SinkView, IsDue}
use Rattle.q_command.specs.Statuses.{status_of}
use Rattle.q_command.specs.declared.outcome.Outcome.{Outcome}
use Rattle.q_command.specs.declared.outcome.Outcome.TheVariants as outcome
use Rattle.q_command.specs.declared.outcome.Role.TheVariants.{In, Out}
use Rattle.q_command.specs.declared.status.Status.{Status}
use Rattle.q_command.specs.declared.status.Status.TheVariants as status
use Rattle.q_command.proofs.CheckStatus.{carried, line_no_run, end_no_run, no_offence}
use Rattle.q_command.proofs.ToldLaws.{ToldLaws, exact}
use Rattle.q_command.proofs.WholeLogs.{profile-told}
use Rattle.q_run_annotate.specs.AnnotatedLines.{status_of_annotated}
use Rattle.q_run_annotate.specs.Annotates.{AnnotateFiles, AnnotatesBy, Annotation, AnswersBy, ChecksBy, IsAnnotation, IsPartBy, IsWholeBy, LeadsPlain, LogRefuses, EndsPlain, Refusal, told}
use Rattle.q_run_annotate.specs.declared.annotated.Annotated.{Annotated}
use Rattle.q_run_annotate.specs.declared.annotated.Annotated.TheVariants.{Written, Unverified, WriteFault, NoMemory}

-- a plain log that is refused leads nowhere
line-no-plain : (log : List ℕ) (F G : PrenexFormula) (n c : ℕ) → IsRefusedPlain F log n c → LeadsPlain log F G → ⊥
line-no-plain log F G n c b (es, r) = go (profile-told standard.bytes log)
  where
    go : (Profile standard.bytes log ≡ 1) ⊎ (Profile standard.bytes log ≡ 2) → ⊥
    go (inl p) = line_no_run log F G n c (inl (p, b)) (es, inl r)
    go (inr p) = let w : Some es ≡ None = sym r.is_log ∙ no-steps standard.bytes log p in cc

end-no-plain : (log : List ℕ) (F G : PrenexFormula) (c : ℕ) → EndsPlain log F G c → LeadsPlain log F G → ⊥
end-no-plain log F G c e (es, r) = end_no_run log F G c (record { last = e.last; way = inl e.way; apart = e.apart }) (es, inl r)

-- what is said of a log settles whether it leads from one formula to another
pub record Settles (L : PrenexFormula → PrenexFormula → Type 0) (A : Annotation) (R : Refusal) : Type 0 where
  pub leads : (k : ℕ) (F G : PrenexFormula) (text : List ℕ) → A k F G text → L F G
  pub line : (n c : ℕ) (F G : PrenexFormula) → R (outcome.RefusedLine n c) F G → L F G → ⊥
  pub end : (c : ℕ) (F G : PrenexFormula) → R (outcome.RefusedEnd c) F G → L F G → ⊥

module _ (L : PrenexFormula → PrenexFormula → Type 0) (A : Annotation) (R : Refusal) (law : Settles L A R) (given : Status) (n : AnnotateFiles) (before : Disk) (after : Option Disk) where
  abbrev Result : Type 0
  Result = AnswersBy L A given n before after

  abbrev Leads : Type 0
  Leads = OfFormulas (bytes_at before n.input) (bytes_at before n.output) L

  whole-verified : (k : ℕ) → IsWholeBy A k n before after → Leads
  whole-verified k h = record {
    from = h.from;
    to = h.to;
    is_input = h.is_input;
    is_output = h.is_output;
    holds = law.leads k h.from h.to h.holds.0 h.holds.1;
  }

  -- formulas that were read are no refused inputs
  no-refusal : {P : PrenexFormula → PrenexFormula → Type 0} → OfFormulas (bytes_at before n.input) (bytes_at before n.output) P → IsNoFormula (bytes_at before n.input) ⊎ IsNoFormula (bytes_at before n.output) → ⊥
  no-refusal v (inl z) = z v.from v.is_input
  no-refusal v (inr z) = z v.to v.is_output

  whole : (k : ℕ) → IsWholeBy A k n before after → given ≡ status.Done → Result
  whole k h e =
      let v = whole-verified k h in
      record {
        done = ((λ x. v), (λ x. inl e));
        written = λ x. (k, h);
        log_refused = ((λ x. absurd (let w : status.Done ≡ status.LogRefused = sym e ∙ x in cc)), (λ r. absurd (r.holds (carried _ _ _ _ r v))));
        input_refused = ((λ x. absurd (let w : status.Done ≡ status.InputRefused = sym e ∙ x in cc)), (λ r. absurd (no-refusal v r)));
        untouched = λ x. absurd (elim x [
          | inl a ↦ (let w : status.Done ≡ status.LogRefused = sym e ∙ a in cc)
          | inr b ↦ elim b [
            | inl a ↦ (let w : status.Done ≡ status.InputRefused = sym e ∙ a in cc)
            | inr a ↦ (let w : status.Done ≡ status.ReadFault = sym e ∙ a in cc)
          ]
        ]);
        left = λ x. absurd (elim x [ inl a ↦ (let w : status.Done ≡ status.WriteFault = sym e ∙ a in cc) | inr a ↦ (let w : status.Done ≡ status.NoMemory = sym e ∙ a in cc) ]);
      }

  faulty : MayCome given → (given ≡ status.ReadFault → after ≡ Some before) → ((given ≡ status.WriteFault) ⊎ (given ≡ status.NoMemory) → (after ≡ Some before) ⊎ IsPartBy A n before after) → Result
  faulty m same l =
      record {
        done = ((λ x. absurd (come m x)), (λ f. inr m));
        written = λ x. absurd (come m x);
        log_refused = ((λ x. absurd (come-log m x)), (λ r. inr m));
        input_refused = ((λ x. absurd (come-input m x)), (λ r. inr m));
        untouched = λ x. elim x [
          | inl a ↦ absurd (come-log m a)
          | inr b ↦ elim b [ inl a ↦ absurd (come-input m a) | inr a ↦ same a ]
        ];
        left = l;
      }
    where
      come : MayCome given → given ≡ status.Done → ⊥
      come (inl a) x = cc
      come (inr (inl a)) x = cc
      come (inr (inr a)) x = cc

      come-log : MayCome given → given ≡ status.LogRefused → ⊥
      come-log (inl a) x = cc
      come-log (inr (inl a)) x = cc
      come-log (inr (inr a)) x = cc

      come-input : MayCome given → given ≡ status.InputRefused → ⊥
      come-input (inl a) x = cc
      come-input (inr (inl a)) x = cc
      come-input (inr (inr a)) x = cc

  refused : OfFormulas (bytes_at before n.input) (bytes_at before n.output) (λ F G. ¬ L F G) → after ≡ Some before → given ≡ status.LogRefused → Result
  refused r same e = record {
    done = ((λ x. absurd (let w : status.LogRefused ≡ status.Done = sym e ∙ x in cc)), (λ v. absurd (r.holds (carried _ _ _ _ r v))));
    written = λ x. absurd (let w : status.LogRefused ≡ status.Done = sym e ∙ x in cc);
    log_refused = ((λ x. r), (λ q. inl e));
    input_refused = ((λ x. absurd (let w : status.LogRefused ≡ status.InputRefused = sym e ∙ x in cc)), (λ q. absurd (no-refusal r q)));
    untouched = λ x. same;
    left = λ x. inl same;
  }

  no-formula : IsNoFormula (bytes_at before n.input) ⊎ IsNoFormula (bytes_at before n.output) → after ≡ Some before → given ≡ status.InputRefused → Result
  no-formula z same e = record {
    done = ((λ x. absurd (let w : status.InputRefused ≡ status.Done = sym e ∙ x in cc)), (λ v. absurd (no-refusal v z)));
    written = λ x. absurd (let w : status.InputRefused ≡ status.Done = sym e ∙ x in cc);
    log_refused = ((λ x. absurd (let w : status.InputRefused ≡ status.LogRefused = sym e ∙ x in cc)), (λ r. absurd (no-refusal r z)));
    input_refused = ((λ x. z), (λ q. inl e));
    untouched = λ x. same;
    left = λ x. inl same;
  }

  unverified : (w : Outcome) → IsUnverified w → ChecksBy R w (bytes_at before n.input) (bytes_at before n.output) → after ≡ Some before → given ≡ status_of w → Result
  unverified (outcome.Verified k) u h same e = absurd u
  unverified (outcome.RefusedLine k c) u h same e =
      refused (record { from = h.from; to = h.to; is_input = h.is_input; is_output = h.is_output; holds = law.line k c h.from h.to h.holds }) same e
  unverified (outcome.RefusedEnd c) u h same e =
      refused (record { from = h.from; to = h.to; is_input = h.is_input; is_output = h.is_output; holds = law.end c h.from h.to h.holds }) same e
  unverified (outcome.RefusedInput In k c) u h same e = no-formula (inl (λ F f. no_offence (bytes_at before n.input) F k c h f)) same e
  unverified (outcome.RefusedInput Out k c) u h same e = no-formula (inr (λ F f. no_offence (bytes_at before n.output) F k c h.2 f)) same e
  unverified outcome.ReadFault u h same e = faulty (inl e) (λ x. same) (λ x. inl same)
  unverified outcome.NoMemory u h same e = faulty (inr (inr e)) (λ x. same) (λ x. inl same)

  -- what stands where the line could not be put
  stands : (due : Annotated) → AnnotatesBy A R due n before after → (after ≡ Some before) ⊎ IsPartBy A n before after
  stands (Written k) h =
      let w = h.holds in
      inr (record {
        from = h.from;
        to = h.to;
        is_input = h.is_input;
        is_output = h.is_output;
        holds = (
          k,
          w.0,
          w.1,
          record {
            disk = w.2.disk;
            told = w.2.told;
            bytes = inr (length w.0, ap (λ b. unwrap_or b []) w.2.bytes ∙ sym (take-length w.0));
            others = w.2.others;
          },
        );
      })
  stands (Unverified o) h = inl h.2
  stands WriteFault h = inr h
  stands NoMemory h = h

  due-answers : (due : Annotated) → AnnotatesBy A R due n before after → given ≡ status_of_annotated due → Result
  due-answers (Written k) h e = whole k h e
  due-answers (Unverified o) h e = unverified o h.0 h.1 h.2 e
  due-answers WriteFault h e = faulty (inr (inl e)) (λ x. let w : status.WriteFault ≡ status.ReadFault = sym e ∙ x in cc) (λ x. inr h)
  due-answers NoMemory h e = faulty (inr (inr e)) (λ x. let w : status.NoMemory ≡ status.ReadFault = sym e ∙ x in cc) (λ x. h)

  pub annotate-answers : (due : Annotated) (old new : SinkView) → AnnotatesBy A R due n before after → IsDue (status_of_annotated due) given old new → Result
  annotate-answers due old new h (inl e) = due-answers due h e
  annotate-answers due old new h (inr (inl e)) = faulty (inr (inl e.0)) (λ x. let w : status.WriteFault ≡ status.ReadFault = sym e.0 ∙ x in cc) (λ x. stands due h)
  annotate-answers due old new h (inr (inr e)) = faulty (inr (inr e.0)) (λ x. let w : status.NoMemory ≡ status.ReadFault = sym e.0 ∙ x in cc) (λ x. stands due h)

pub annotate-usage : (o : Annotated) → status_of_annotated o ≢ status.Usage
annotate-usage (Written k) e = cc
annotate-usage (Unverified (outcome.Verified k)) e = cc
annotate-usage (Unverified (outcome.RefusedLine k c)) e = cc
annotate-usage (Unverified (outcome.RefusedEnd c)) e = cc
annotate-usage (Unverified (outcome.RefusedInput r k c)) e = cc
annotate-usage (Unverified outcome.ReadFault) e = cc
annotate-usage (Unverified outcome.NoMemory) e = cc
annotate-usage WriteFault e = cc
annotate-usage NoMemory e = cc

plain-settles : (log : List ℕ) → Settles (LeadsPlain log) (IsAnnotation log) (λ w F G. LogRefuses w F G log)
plain-settles log = record {
  leads = λ k F G text a. (a.entries, record { is_log = a.is_log; run = hinted-leads F G (steps_of a.entries) text a.hinted });
  line = λ n c F G b. line-no-plain log F G n c b;
  end = λ c F G e. end-no-plain log F G c e;
}

pub laws : (n : AnnotateFiles) → ToldLaws (told n)
laws n = record {
  gives = λ o given disk after old new h d.
      let l = bytes_at disk n.log in
      annotate-answers (LeadsPlain l) (IsAnnotation l) (λ w F G. LogRefuses w F G l) (plain-settles l) given n disk after o old new h d;
  no_usage = annotate-usage;
  answers = λ given disk after m g. (exact given status.Done _ m g.done, exact given status.LogRefused _ m g.log_refused);
}
