-- When each status of `apply` comes.
use Rattle.std.proofs.Common.{◌≡◌, ◌≢◌, ◌⊎◌, inl, inr, ◌∙◌, sym, subst, ap, ℕ, List, [], length, Option, None, Some, unwrap_or}
use Rattle.std.proofs.Math.Seq.{take-length}
use Rattle.q_logic.specs.Prelude.{PrenexFormula}
use Rattle.q_io.specs.Files.{Disk, bytes_at}
use Rattle.q_dimacs.specs.Writing.{formula_text}
use Rattle.q_command.specs.Checks.{IsNoFormula, MayCome}
use Rattle.q_command.specs.Sinks.{SinkView, IsDue}
use Rattle.q_command.specs.declared.status.Status.{Status}
use Rattle.q_command.specs.declared.status.Status.TheVariants as status
use Rattle.q_command.proofs.CheckStatus.{one_formula, no_offence}
use Rattle.q_command.proofs.ToldLaws.{ToldLaws, exact}
use Rattle.q_run_apply.specs.AppliedLines.{status_of_applied}
use Rattle.q_run_apply.specs.Applications.{ApplyFiles, AppliesExactly, CanBeMade, IsApplicable, IsApplied, IsInapplicable, IsPart, IsRefusedAt, Says, entries_in, offence_in, told}
use Rattle.q_run_apply.specs.declared.applied.Applied.{Applied}
use Rattle.q_run_apply.specs.declared.applied.Applied.TheVariants as outcome
use Rattle.q_run_apply.proofs.MadeSteps.{made-or-unfit}

-- a log that is refused can't be made
refused-not : (F : PrenexFormula) (log : List ℕ) (line cause : ℕ) → IsRefusedAt F log line cause → CanBeMade F log → ⊥
refused-not F log line cause r c = made-or-unfit F (entries_in log) (offence_in log) line cause c.no_offence c.steps r

module _ (given : Status) (n : ApplyFiles) (before : Disk) (after : Option Disk) where
  abbrev Result : Type 0
  Result = AppliesExactly given n before after

  -- IN holds one formula
  apart : IsApplicable n before → IsInapplicable n before → ⊥
  apart p q = q.holds (subst (λ (F : PrenexFormula). CanBeMade F (bytes_at before n.log)) (one_formula (bytes_at before n.input) p.formula q.formula p.is_input q.is_input) p.holds)

  applicable : (k : ℕ) (b : Option ℕ) → IsApplied k b n before after → IsApplicable n before
  applicable k b h = record { formula = h.formula; is_input = h.is_input; holds = h.holds.makes.can }

  -- the whole text is a front of itself
  part-of : (k : ℕ) (b : Option ℕ) → IsApplied k b n before after → IsPart n before after
  part-of k b h =
      let w = h.holds.written in
      let text : List ℕ = formula_text h.holds.result in
      record {
        formula = h.formula;
        is_input = h.is_input;
        holds = record {
          result = h.holds.result;
          steps = k;
          makes = h.holds.makes;
          left = record {
            disk = w.disk;
            told = w.told;
            bytes = inr (length text, ap (λ x. unwrap_or x []) w.bytes ∙ sym (take-length text));
            others = w.others;
          };
        };
      }

  -- a status that no fault gives
  come : MayCome given → given ≡ status.Done → ⊥
  come (inl a) x = cc
  come (inr (inl a)) x = cc
  come (inr (inr a)) x = cc

  come-log : MayCome given → given ≡ status.LogRefused → ⊥
  come-log (inl a) x = cc
  come-log (inr (inl a)) x = cc
  come-log (inr (inr a)) x = cc

  come-input : MayCome given → given ≡ status.InputRefused → ⊥
  come-input (inl a) x = cc
  come-input (inr (inl a)) x = cc
  come-input (inr (inr a)) x = cc

  whole : (k : ℕ) (b : Option ℕ) → IsApplied k b n before after → given ≡ status.Done → Result
  whole k b h e =
      let p = applicable k b h in
      record {
        done = ((λ x. p), (λ x. inl e));
        written = λ x. (k, b, h);
        log_refused = ((λ x. absurd (let w : status.Done ≡ status.LogRefused = sym e ∙ x in cc)), (λ q. absurd (apart p q)));
        input_refused = ((λ x. absurd (let w : status.Done ≡ status.InputRefused = sym e ∙ x in cc)), (λ z. absurd (z p.formula p.is_input)));
        untouched = λ x. absurd (elim x [
          | inl a ↦ (let w : status.Done ≡ status.LogRefused = sym e ∙ a in cc)
          | inr b ↦ elim b [
            | inl a ↦ (let w : status.Done ≡ status.InputRefused = sym e ∙ a in cc)
            | inr a ↦ (let w : status.Done ≡ status.ReadFault = sym e ∙ a in cc)
          ]
        ]);
        left = λ x. absurd (elim x [ inl a ↦ (let w : status.Done ≡ status.WriteFault = sym e ∙ a in cc) | inr a ↦ (let w : status.Done ≡ status.NoMemory = sym e ∙ a in cc) ]);
      }

  refused : IsInapplicable n before → after ≡ Some before → given ≡ status.LogRefused → Result
  refused p same e = record {
    done = ((λ x. absurd (let w : status.LogRefused ≡ status.Done = sym e ∙ x in cc)), (λ q. absurd (apart q p)));
    written = λ x. absurd (let w : status.LogRefused ≡ status.Done = sym e ∙ x in cc);
    log_refused = ((λ x. p), (λ q. inl e));
    input_refused = ((λ x. absurd (let w : status.LogRefused ≡ status.InputRefused = sym e ∙ x in cc)), (λ z. absurd (z p.formula p.is_input)));
    untouched = λ x. same;
    left = λ x. inl same;
  }

  no-formula : IsNoFormula (bytes_at before n.input) → after ≡ Some before → given ≡ status.InputRefused → Result
  no-formula z same e = record {
    done = ((λ x. absurd (let w : status.InputRefused ≡ status.Done = sym e ∙ x in cc)), (λ q. absurd (z q.formula q.is_input)));
    written = λ x. absurd (let w : status.InputRefused ≡ status.Done = sym e ∙ x in cc);
    log_refused = ((λ x. absurd (let w : status.InputRefused ≡ status.LogRefused = sym e ∙ x in cc)), (λ q. absurd (z q.formula q.is_input)));
    input_refused = ((λ x. z), (λ q. inl e));
    untouched = λ x. same;
    left = λ x. inl same;
  }

  faulty : MayCome given → (given ≡ status.ReadFault → after ≡ Some before) → ((given ≡ status.WriteFault) ⊎ (given ≡ status.NoMemory) → (after ≡ Some before) ⊎ IsPart n before after) → Result
  faulty m same l = record {
    done = ((λ x. absurd (come m x)), (λ q. inr m));
    written = λ x. absurd (come m x);
    log_refused = ((λ x. absurd (come-log m x)), (λ q. inr m));
    input_refused = ((λ x. absurd (come-input m x)), (λ q. inr m));
    untouched = λ x. elim x [ inl a ↦ absurd (come-log m a) | inr b ↦ elim b [ inl a ↦ absurd (come-input m a) | inr a ↦ same a ] ];
    left = l;
  }

  -- what stands where the line could not be put
  stands : (o : Applied) → Says o n before after → (after ≡ Some before) ⊎ IsPart n before after
  stands (outcome.Whole k) h = inr (part-of k None h)
  stands (outcome.Broken k l) h = inr (part-of k (Some l) h)
  stands (outcome.RefusedLine l c) h = inl h.1
  stands (outcome.RefusedInput l c) h = inl h.1
  stands outcome.ReadFault h = inl h
  stands outcome.WriteFault h = inr h
  stands outcome.NoMemory h = h

  due-answers : (o : Applied) → Says o n before after → given ≡ status_of_applied o → Result
  due-answers (outcome.Whole k) h e = whole k None h e
  due-answers (outcome.Broken k l) h e = whole k (Some l) h e
  due-answers (outcome.RefusedLine l c) h e =
      refused (record { formula = h.0.formula; is_input = h.0.is_input; holds = refused-not h.0.formula _ l c h.0.holds }) h.1 e
  due-answers (outcome.RefusedInput l c) h e = no-formula (λ F f. no_offence (bytes_at before n.input) F l c h.0 f) h.1 e
  due-answers outcome.ReadFault h e = faulty (inl e) (λ x. h) (λ x. inl h)
  due-answers outcome.WriteFault h e = faulty (inr (inl e)) (λ x. let w : status.WriteFault ≡ status.ReadFault = sym e ∙ x in cc) (λ x. inr h)
  due-answers outcome.NoMemory h e = faulty (inr (inr e)) (λ x. let w : status.NoMemory ≡ status.ReadFault = sym e ∙ x in cc) (λ x. h)

  pub apply-answers : (o : Applied) (old new : SinkView) → Says o n before after → IsDue (status_of_applied o) given old new → Result
  apply-answers o old new h (inl e) = due-answers o h e
  apply-answers o old new h (inr (inl e)) = faulty (inr (inl e.0)) (λ x. let w : status.WriteFault ≡ status.ReadFault = sym e.0 ∙ x in cc) (λ x. stands o h)
  apply-answers o old new h (inr (inr e)) = faulty (inr (inr e.0)) (λ x. let w : status.NoMemory ≡ status.ReadFault = sym e.0 ∙ x in cc) (λ x. stands o h)

pub apply-usage : (o : Applied) → status_of_applied o ≢ status.Usage
apply-usage (outcome.Whole k) e = cc
apply-usage (outcome.Broken k l) e = cc
apply-usage (outcome.RefusedLine k c) e = cc
apply-usage (outcome.RefusedInput k c) e = cc
apply-usage outcome.ReadFault e = cc
apply-usage outcome.WriteFault e = cc
apply-usage outcome.NoMemory e = cc

pub laws : (n : ApplyFiles) → ToldLaws (told n)
laws n = record {
  gives = λ o given disk after old new h d. apply-answers given n disk after o old new h d;
  no_usage = apply-usage;
  answers = λ given disk after m g. (exact given status.Done _ m g.done, exact given status.LogRefused _ m g.log_refused);
}
