-- When each status of `disprove` with circuits comes.
use Rattle.std.proofs.Common.{◌≡◌, ◌≢◌, ◌⊎◌, inl, inr, ◌∙◌, sym, ap, subst, ℕ, Bool, false, [], length, unwrap_or, Option, Some}
use Rattle.std.proofs.Math.Seq.{take-length}
use Rattle.q_logic.specs.Prelude.{PrenexFormula, standard}
use Rattle.q_io.specs.Files.{Disk, bytes_at}
use Rattle.q_log.specs.Logs.{Parsed}
use Rattle.q_refutation.proofs.Refusing.{number-refutes}
use Rattle.q_command.specs.Checks.{IsFileOf, IsNoFormula, MayCome}
use Rattle.q_command.specs.Logs.{steps_of}
use Rattle.q_command.specs.Sinks.{SinkView, IsDue}
use Rattle.q_command.specs.declared.status.Status.{Status}
use Rattle.q_command.specs.declared.status.Status.TheVariants as status
use Rattle.q_command.proofs.CheckStatus.{one_formula, no_offence}
use Rattle.q_command.proofs.ToldLaws.{ToldLaws, exact}
use Rattle.q_run_disprove.specs.CertifiedLines.{status_of_certified}
use Rattle.q_run_disprove.specs.Certifying.{Certifies, CertifiesExactly, CertifyFiles, IsExtendedAt, IsExtendedDisproof, IsPart, IsPlain, IsPlainDisproof, IsUntouched, IsWhole, told}
use Rattle.q_run_disprove.specs.DisprovedLines.{status_of_disproved}
use Rattle.q_run_disprove.specs.Disproofs.{IsNoDisproof, IsRefutation, proof_of}
use Rattle.q_run_disprove.specs.declared.certified.Certified.{Certified}
use Rattle.q_run_disprove.specs.declared.certified.Certified.TheVariants as certified
use Rattle.q_run_disprove.specs.declared.disproved.Disproved.{Disproved}
use Rattle.q_run_disprove.specs.declared.disproved.Disproved.TheVariants as outcome
use Rattle.q_run_disprove.proofs.DisproveStatus.{due, not-due, faulty, false-stays, log-stays, input-stays, line-not, end-not, plain-false, disprove-usage}

extended-stays : MayCome status.Extended → ⊥
extended-stays (inl a) = cc
extended-stays (inr (inl a)) = cc
extended-stays (inr (inr a)) = cc

module _ (given : Status) (n : CertifyFiles) (binary : Bool) (before : Disk) (after : Option Disk) where
  abbrev Result : Type 0
  Result = CertifiesExactly given n binary before after

  abbrev proof : Parsed
  proof = proof_of binary (bytes_at before n.read.proof)

  abbrev Touched : Type 0
  Touched = (given ≡ status.WriteFault) ⊎ (given ≡ status.NoMemory) → (after ≡ Some before) ⊎ IsPart n binary before after

  -- the file holds one formula
  refutes-not : (F : PrenexFormula) → IsFileOf (bytes_at before n.read.input) F → IsRefutation F proof → IsNoDisproof n.read binary before → ⊥
  refutes-not F f r q =
      q.holds (subst (λ (G : PrenexFormula). IsRefutation G proof) (one_formula (bytes_at before n.read.input) F q.formula f q.is_input) r)

  apart : IsPlainDisproof n binary before → IsExtendedDisproof n binary before → ⊥
  apart p q =
      subst (λ (F : PrenexFormula). IsPlain F proof)
      (one_formula (bytes_at before n.read.input) p.formula q.formula p.is_input q.is_input) p.holds.1 q.holds.1.0 q.holds.1.1

  plain-of : (k : ℕ) → IsWhole k n binary before after → IsPlainDisproof n binary before
  plain-of k h = record {
    formula = h.formula;
    is_input = h.is_input;
    holds = (number-refutes false standard h.formula (steps_of proof.steps) k h.holds.refutation, h.holds.plain);
  }

  touched : given ≡ status.False → IsUntouched given → ⊥
  touched e (inl a) = let w : status.False ≡ status.LogRefused = sym e ∙ a in cc
  touched e (inr (inl a)) = let w : status.False ≡ status.InputRefused = sym e ∙ a in cc
  touched e (inr (inr (inl a))) = let w : status.False ≡ status.Extended = sym e ∙ a in cc
  touched e (inr (inr (inr a))) = let w : status.False ≡ status.ReadFault = sym e ∙ a in cc

  not-left : (s : Status) → given ≡ s → s ≢ status.WriteFault → s ≢ status.NoMemory → Touched
  not-left s e f g (inl a) = absurd (f (sym e ∙ a))
  not-left s e f g (inr a) = absurd (g (sym e ∙ a))

  whole : (k : ℕ) → IsWhole k n binary before after → given ≡ status.False → Result
  whole k h e =
      let p : IsPlainDisproof n binary before = plain-of k h in
      record {
        disproved = due given status.False (IsPlainDisproof n binary before) e p;
        written = λ x. (k, h);
        is_false = λ x. plain-false n.read binary before (record { formula = p.formula; is_input = p.is_input; holds = p.holds.0 });
        extended = not-due given status.False status.Extended (IsExtendedDisproof n binary before) e (λ x. cc) (λ q. apart p q);
        log_refused = not-due given status.False status.LogRefused (IsNoDisproof n.read binary before) e (λ x. cc) (λ q. refutes-not p.formula p.is_input p.holds.0 q);
        input_refused = not-due given status.False status.InputRefused (IsNoFormula (bytes_at before n.read.input)) e (λ x. cc) (λ z. z p.formula p.is_input);
        untouched = λ x. absurd (touched e x);
        left = not-left status.False e (λ x. cc) (λ x. cc);
      }

  extended : (line : ℕ) → IsExtendedAt line n binary before → after ≡ Some before → given ≡ status.Extended → Result
  extended line h same e =
      let q : IsExtendedDisproof n binary before = record { formula = h.formula; is_input = h.is_input; holds = (h.holds.0, (line, h.holds.1)) } in
      record {
        disproved = not-due given status.Extended status.False (IsPlainDisproof n binary before) e (λ x. cc) (λ p. apart p q);
        written = λ x. absurd (let w : status.Extended ≡ status.False = sym e ∙ x in cc);
        is_false = λ x. absurd (let w : status.Extended ≡ status.False = sym e ∙ x in cc);
        extended = due given status.Extended (IsExtendedDisproof n binary before) e q;
        log_refused = not-due given status.Extended status.LogRefused (IsNoDisproof n.read binary before) e (λ x. cc) (λ x. refutes-not q.formula q.is_input q.holds.0 x);
        input_refused = not-due given status.Extended status.InputRefused (IsNoFormula (bytes_at before n.read.input)) e (λ x. cc) (λ z. z q.formula q.is_input);
        untouched = λ x. same;
        left = λ x. inl same;
      }

  refused : IsNoDisproof n.read binary before → after ≡ Some before → given ≡ status.LogRefused → Result
  refused q same e = record {
    disproved = not-due given status.LogRefused status.False (IsPlainDisproof n binary before) e (λ x. cc) (λ p. refutes-not p.formula p.is_input p.holds.0 q);
    written = λ x. absurd (let w : status.LogRefused ≡ status.False = sym e ∙ x in cc);
    is_false = λ x. absurd (let w : status.LogRefused ≡ status.False = sym e ∙ x in cc);
    extended = not-due given status.LogRefused status.Extended (IsExtendedDisproof n binary before) e (λ x. cc) (λ p. refutes-not p.formula p.is_input p.holds.0 q);
    log_refused = due given status.LogRefused (IsNoDisproof n.read binary before) e q;
    input_refused = not-due given status.LogRefused status.InputRefused (IsNoFormula (bytes_at before n.read.input)) e (λ x. cc) (λ z. z q.formula q.is_input);
    untouched = λ x. same;
    left = λ x. inl same;
  }

  no-formula : IsNoFormula (bytes_at before n.read.input) → after ≡ Some before → given ≡ status.InputRefused → Result
  no-formula z same e = record {
    disproved = not-due given status.InputRefused status.False (IsPlainDisproof n binary before) e (λ x. cc) (λ p. z p.formula p.is_input);
    written = λ x. absurd (let w : status.InputRefused ≡ status.False = sym e ∙ x in cc);
    is_false = λ x. absurd (let w : status.InputRefused ≡ status.False = sym e ∙ x in cc);
    extended = not-due given status.InputRefused status.Extended (IsExtendedDisproof n binary before) e (λ x. cc) (λ p. z p.formula p.is_input);
    log_refused = not-due given status.InputRefused status.LogRefused (IsNoDisproof n.read binary before) e (λ x. cc) (λ q. z q.formula q.is_input);
    input_refused = due given status.InputRefused (IsNoFormula (bytes_at before n.read.input)) e z;
    untouched = λ x. same;
    left = λ x. inl same;
  }

  -- faults and want of memory
  fault : MayCome given → (given ≡ status.ReadFault → after ≡ Some before) → Touched → Result
  fault m same l = record {
    disproved = faulty given status.False (IsPlainDisproof n binary before) m false-stays;
    written = λ x. absurd (false-stays (subst MayCome x m));
    is_false = λ x. absurd (false-stays (subst MayCome x m));
    extended = faulty given status.Extended (IsExtendedDisproof n binary before) m extended-stays;
    log_refused = faulty given status.LogRefused (IsNoDisproof n.read binary before) m log-stays;
    input_refused = faulty given status.InputRefused (IsNoFormula (bytes_at before n.read.input)) m input-stays;
    untouched = unchanged;
    left = l;
  }
    where
      unchanged : IsUntouched given → after ≡ Some before
      unchanged (inl a) = absurd (log-stays (subst MayCome a m))
      unchanged (inr (inl a)) = absurd (input-stays (subst MayCome a m))
      unchanged (inr (inr (inl a))) = absurd (extended-stays (subst MayCome a m))
      unchanged (inr (inr (inr a))) = same a

  undisproved : (o : Disproved) → Certifies (certified.Undisproved o) n binary before after → given ≡ status_of_disproved o → Result
  undisproved (outcome.False k) h e = absurd h.0
  undisproved (outcome.RefusedLine k c) (u, h, same) e =
      refused (record { formula = h.formula; is_input = h.is_input; holds = line-not k c h.formula _ h.holds }) same e
  undisproved outcome.RefusedEnd (u, h, same) e =
      refused (record { formula = h.formula; is_input = h.is_input; holds = end-not h.formula _ h.holds }) same e
  undisproved (outcome.RefusedInput k c) (u, h, same) e = no-formula (λ F f. no_offence (bytes_at before n.read.input) F k c h f) same e
  undisproved outcome.ReadFault (u, h, same) e = fault (inl e) (λ x. same) (λ x. inl same)
  undisproved outcome.NoMemory (u, h, same) e = fault (inr (inr e)) (λ x. same) (λ x. inl same)

  -- what stands where the line could not be put
  stands : (o : Certified) → Certifies o n binary before after → (after ≡ Some before) ⊎ IsPart n binary before after
  stands (certified.False k) h =
      let w = h.holds in
      inr (record {
        formula = h.formula;
        is_input = h.is_input;
        holds = record {
          gates = w.gates;
          text = w.text;
          certificate = w.certificate;
          left = record {
            disk = w.written.disk;
            told = w.written.told;
            bytes = inr (length w.text, ap (λ b. unwrap_or b []) w.written.bytes ∙ sym (take-length w.text));
            others = w.written.others;
          };
        };
      })
  stands (certified.Extended line) h = inl h.1
  stands (certified.Undisproved o) h = inl h.2
  stands certified.WriteFault h = inr h
  stands certified.NoMemory h = h

  due-answers : (o : Certified) → Certifies o n binary before after → given ≡ status_of_certified o → Result
  due-answers (certified.False k) h e = whole k h e
  due-answers (certified.Extended line) h e = extended line h.0 h.1 e
  due-answers (certified.Undisproved o) h e = undisproved o h e
  due-answers certified.WriteFault h e = fault (inr (inl e)) (λ x. absurd (let w : status.WriteFault ≡ status.ReadFault = sym e ∙ x in cc)) (λ x. inr h)
  due-answers certified.NoMemory h e = fault (inr (inr e)) (λ x. absurd (let w : status.NoMemory ≡ status.ReadFault = sym e ∙ x in cc)) (λ x. h)

  pub certify-answers : (o : Certified) (old new : SinkView) → Certifies o n binary before after → IsDue (status_of_certified o) given old new → Result
  certify-answers o old new h (inl e) = due-answers o h e
  certify-answers o old new h (inr (inl e)) =
      fault (inr (inl e.0)) (λ x. absurd (let w : status.WriteFault ≡ status.ReadFault = sym e.0 ∙ x in cc)) (λ x. stands o h)
  certify-answers o old new h (inr (inr e)) =
      fault (inr (inr e.0)) (λ x. absurd (let w : status.NoMemory ≡ status.ReadFault = sym e.0 ∙ x in cc)) (λ x. stands o h)

pub certify-usage : (o : Certified) → status_of_certified o ≢ status.Usage
certify-usage (certified.False k) e = cc
certify-usage (certified.Extended line) e = cc
certify-usage (certified.Undisproved o) e = disprove-usage o e
certify-usage certified.WriteFault e = cc
certify-usage certified.NoMemory e = cc

pub laws : (n : CertifyFiles) (binary : Bool) → ToldLaws (told n binary)
laws n binary = record {
  gives = λ o given disk after old new h d. certify-answers given n binary disk after o old new h d;
  no_usage = certify-usage;
  answers = λ given disk after m g.
      (exact given status.False _ m g.disproved, exact given status.Extended _ m g.extended, exact given status.LogRefused _ m g.log_refused);
}
