-- When each status of `refute` comes.
use Rattle.std.proofs.Common.{◌≡◌, ◌⊎◌, inl, inr, ◌∙◌, sym, ap, subst, ℕ, List, [], length, unwrap_or, Option, Some}
use Rattle.std.proofs.Math.Seq.{take-length}
use Rattle.q_logic.specs.Prelude.{PrenexFormula, CertificateView}
use Rattle.q_logic.specs.Reversals.{Reversal, NoneExtended}
use Rattle.q_logic.proofs.ForthRuns.{reversals-none_extended}
use Rattle.q_io.specs.Files.{Disk, bytes_at}
use Rattle.q_aiger.specs.Circuits.{AreCircuits}
use Rattle.q_aiger.specs.Alike.{AreAlike}
use Rattle.q_aiger.proofs.GateOrders.{one-meaning, offence-none}
use Rattle.q_herbrand.specs.Refusals.{IsAccepted}
use Rattle.q_herbrand.proofs.AcceptedCircuits.{herbrand-accepted, accepted-alike, refused-not_accepted}
use Rattle.q_herbrand.specs.declared.error.HerbrandError.{HerbrandError}
use Rattle.q_herbrand.specs.declared.error.HerbrandError.TheVariants as refusal
use Rattle.q_command.specs.Checks.{Checks, IsFileOf, IsUnverified, IsVerified, MayCome, AnswersExactly}
use Rattle.q_command.specs.Logs.{Entry, steps_of}
use Rattle.q_command.specs.Sinks.{SinkView, IsDue}
use Rattle.q_command.specs.Statuses.{status_of}
use Rattle.q_command.specs.declared.outcome.Outcome.{Outcome}
use Rattle.q_command.specs.declared.outcome.Outcome.TheVariants as outcome
use Rattle.q_command.specs.declared.status.Status.{Status}
use Rattle.q_command.specs.declared.unfit.Unfit.{Unfit}
use Rattle.q_command.specs.declared.unfit.Unfit.TheVariants as unfit
use Rattle.q_command.specs.declared.status.Status.TheVariants as status
use Rattle.q_command.proofs.FileFormulas.{file-formula}
use Rattle.q_command.proofs.ToldLaws.{ToldLaws, exact}
use Rattle.q_command.proofs.WholeLogs.{one_log}
use Rattle.q_command.proofs.CheckStatus.{answers, one_formula, unverified-truth, unverified-not_done, unverified-not_circuits, verified-run, verified-formulas}
use Rattle.q_run_refute.specs.Refutes.{RefuteFiles, error_of, OfRun, OfCircuits, OfPlainRun, IsPlainRun, IsExtendedAt, HasExtended, IsWhole, IsPart, AreRefused, Refutes, AreNoCircuits, IsUnfit, AreFitting, AreHerbrand, IsUntouched, RefutesExactly, told}
use Rattle.q_run_refute.specs.RefutedLines.{status_of_refuted}
use Rattle.q_run_refute.specs.declared.refuted.Refuted.{Refuted}
use Rattle.q_run_refute.specs.declared.refuted.Refuted.TheVariants.{Written, Unverified, Extended, RefusedText, RefusedCircuits, TrueOutput, ReadFault, WriteFault, NoMemory}
use Rattle.q_run_refute.proofs.NotedSteps.{plain-not_extended}

-- circuits of one file are such as a formula of one file may have, or none are
fits-alike : (file herbrand : List ℕ) (G H : PrenexFormula) (c d : CertificateView) → IsFileOf file G →
    IsFileOf file H → AreCircuits herbrand c → AreCircuits herbrand d → IsAccepted G c → IsAccepted H d
fits-alike file herbrand G H c d g h p q a =
    let same : AreAlike c d = one-meaning herbrand c d p q in
    subst (λ (F : PrenexFormula). IsAccepted F d) (one_formula file G H g h)
    (accepted-alike c d same.inputs same.names same.trees G a)

unverified-not_extended : (w : Outcome) (answer : Status) → answer ≡ status_of w → answer ≡ status.Extended → ⊥
unverified-not_extended (outcome.Verified n) answer e x = cc
unverified-not_extended (outcome.RefusedLine n c) answer e x = cc
unverified-not_extended (outcome.RefusedEnd c) answer e x = cc
unverified-not_extended (outcome.RefusedInput r n c) answer e x = cc
unverified-not_extended outcome.ReadFault answer e x = cc
unverified-not_extended outcome.NoMemory answer e x = cc

module _ (answer : Status) (n : RefuteFiles) (before : Disk) (after : Option Disk) where
  abbrev Result : Type 0
  Result = RefutesExactly answer n before after

  abbrev Verified : Type 0
  Verified = IsVerified (bytes_at before n.input) (bytes_at before n.output) (bytes_at before n.log)

  run-verified : {P : PrenexFormula → List Entry → PrenexFormula → Type 0} → OfRun n before P → Verified
  run-verified r = record {
    from = r.from;
    to = r.to;
    is_input = r.is_input;
    is_output = r.is_output;
    holds = (r.entries, r.log);
  }

  abbrev brings-plain : {P : PrenexFormula → PrenexFormula → List Reversal → CertificateView → Type 0} →
      OfCircuits n before P → IsPlainRun n before
  brings-plain x = record {
    from = x.from;
    to = x.to;
    entries = x.brings.entries;
    is_input = x.brings.is_input;
    is_output = x.brings.is_output;
    log = x.brings.log;
    holds = reversals-none_extended x.from (steps_of x.brings.entries) x.reversals x.brings.reversals;
  }

  -- no run is plain and has an extended drop
  plain-or : IsPlainRun n before → HasExtended n before → ⊥
  plain-or p (line, x) =
      plain-not_extended x.from x.entries line
      (subst (λ (F : PrenexFormula). NoneExtended F (steps_of x.entries))
      (one_formula (bytes_at before n.input) p.from x.from p.is_input x.is_input)
      (subst (λ (es : List Entry). NoneExtended p.from (steps_of es))
      (one_log (bytes_at before n.log) p.from p.to x.from x.to p.entries x.entries p.log x.log) p.holds)) x.holds

  -- what is refused does not fit
  not-fitting : AreFitting n before → OfPlainRun n before IsUnfit → ⊥
  not-fitting f u = refused-not_accepted u.run.to u.given u.fits.0 u.fits.1 u.fits.2
      (fits-alike (bytes_at before n.output) (bytes_at before n.herbrand) f.run.to u.run.to f.given u.given
      f.run.is_output u.run.is_output f.circuits u.circuits f.fits)

  not-both : AreFitting n before → AreNoCircuits n before → ⊥
  not-both f (inl x) = x.1 f.given f.circuits
  not-both f (inr u) = not-fitting f u

  no-circuits-plain : AreNoCircuits n before → IsPlainRun n before
  no-circuits-plain (inl x) = x.0
  no-circuits-plain (inr u) = u.run

  herbrand-fitting : AreHerbrand n before → AreFitting n before
  herbrand-fitting k = record {
    run = k.run;
    given = k.given;
    circuits = k.circuits;
    fits = herbrand-accepted k.run.to k.given
        (file-formula (bytes_at before n.output) k.run.to k.run.is_output) k.fits;
  }

  whole : (g : ℕ) → IsWhole g n before after → answer ≡ status.Done → Result
  whole g h e =
      let p : IsPlainRun n before = brings-plain h in
      let v : Verified = run-verified p in
      let f : AreFitting n before =
      record { run = p; given = h.given; circuits = h.brings.circuits; fits = h.holds.0 } in
      record {
        done = ((λ x. f), (λ x. inl e));
        written = λ x. (g, h);
        herbrand = λ k. inl e;
        log_refused = ((λ x. absurd (let w : status.Done ≡ status.LogRefused = sym e ∙ x in cc)), (λ r. absurd (verified-run _ _ _ v r)));
        input_refused = ((λ x. absurd (let w : status.Done ≡ status.InputRefused = sym e ∙ x in cc)), (λ r. absurd (verified-formulas _ _ _ v r)));
        extended = ((λ x. absurd (let w : status.Done ≡ status.Extended = sym e ∙ x in cc)), (λ x. absurd (plain-or p x)));
        circuits_refused = ((λ x. absurd (let w : status.Done ≡ status.CircuitsRefused = sym e ∙ x in cc)), (λ a. absurd (not-both f a)));
        untouched = λ x. absurd (touched e x);
        left = λ x. absurd (elim x [ inl a ↦ (let w : status.Done ≡ status.WriteFault = sym e ∙ a in cc) | inr a ↦ (let w : status.Done ≡ status.NoMemory = sym e ∙ a in cc) ]);
      }
    where
      touched : answer ≡ status.Done → IsUntouched answer → ⊥
      touched e (inl a) = let w : status.Done ≡ status.LogRefused = sym e ∙ a in cc
      touched e (inr (inl a)) = let w : status.Done ≡ status.InputRefused = sym e ∙ a in cc
      touched e (inr (inr (inl a))) = let w : status.Done ≡ status.Extended = sym e ∙ a in cc
      touched e (inr (inr (inr (inl a)))) = let w : status.Done ≡ status.CircuitsRefused = sym e ∙ a in cc
      touched e (inr (inr (inr (inr a)))) = let w : status.Done ≡ status.ReadFault = sym e ∙ a in cc

  -- circuits that are refused
  refused : AreNoCircuits n before → after ≡ Some before → answer ≡ status.CircuitsRefused → Result
  refused h same e =
      let v : Verified = run-verified (no-circuits-plain h) in
      record {
        done = ((λ x. absurd (let w : status.CircuitsRefused ≡ status.Done = sym e ∙ x in cc)), (λ f. absurd (not-both f h)));
        written = λ x. absurd (let w : status.CircuitsRefused ≡ status.Done = sym e ∙ x in cc);
        herbrand = λ k. absurd (not-both (herbrand-fitting k) h);
        log_refused = ((λ x. absurd (let w : status.CircuitsRefused ≡ status.LogRefused = sym e ∙ x in cc)), (λ r. absurd (verified-run _ _ _ v r)));
        input_refused = ((λ x. absurd (let w : status.CircuitsRefused ≡ status.InputRefused = sym e ∙ x in cc)), (λ r. absurd (verified-formulas _ _ _ v r)));
        extended = ((λ x. absurd (let w : status.CircuitsRefused ≡ status.Extended = sym e ∙ x in cc)), (λ x. absurd (plain-or (no-circuits-plain h) x)));
        circuits_refused = ((λ x. h), (λ x. inl e));
        untouched = λ x. same;
        left = λ x. absurd (elim x [ inl a ↦ (let w : status.CircuitsRefused ≡ status.WriteFault = sym e ∙ a in cc) | inr a ↦ (let w : status.CircuitsRefused ≡ status.NoMemory = sym e ∙ a in cc) ]);
      }

  refused-cause : (c : HerbrandError) → (c ≡ refusal.NoMemory → ⊥) → AreRefused c n before → after ≡ Some before →
      answer ≡ status.CircuitsRefused → Result
  refused-cause c d x same e =
      refused (inr (record {
        run = brings-plain x;
        given = x.given;
        circuits = x.brings.circuits;
        fits = (c, d, x.holds);
      })) same e

  -- an extended drop
  extended-at : (line : ℕ) → IsExtendedAt line n before → after ≡ Some before → answer ≡ status.Extended → Result
  extended-at line h same e =
      let v : Verified = run-verified h in
      record {
        done = ((λ x. absurd (let w : status.Extended ≡ status.Done = sym e ∙ x in cc)), (λ f. absurd (plain-or f.run (line, h))));
        written = λ x. absurd (let w : status.Extended ≡ status.Done = sym e ∙ x in cc);
        herbrand = λ k. absurd (plain-or k.run (line, h));
        log_refused = ((λ x. absurd (let w : status.Extended ≡ status.LogRefused = sym e ∙ x in cc)), (λ r. absurd (verified-run _ _ _ v r)));
        input_refused = ((λ x. absurd (let w : status.Extended ≡ status.InputRefused = sym e ∙ x in cc)), (λ r. absurd (verified-formulas _ _ _ v r)));
        extended = ((λ x. (line, h)), (λ x. inl e));
        circuits_refused = ((λ x. absurd (let w : status.Extended ≡ status.CircuitsRefused = sym e ∙ x in cc)), (λ a. absurd (plain-or (no-circuits-plain a) (line, h))));
        untouched = λ x. same;
        left = λ x. absurd (elim x [ inl a ↦ (let w : status.Extended ≡ status.WriteFault = sym e ∙ a in cc) | inr a ↦ (let w : status.Extended ≡ status.NoMemory = sym e ∙ a in cc) ]);
      }

  -- faults and want of memory
  faulty : MayCome answer → (answer ≡ status.ReadFault → after ≡ Some before) →
      ((answer ≡ status.WriteFault) ⊎ (answer ≡ status.NoMemory) → (after ≡ Some before) ⊎ IsPart n before after) → Result
  faulty m same l =
      record {
        done = ((λ x. absurd (come m x)), (λ f. inr m));
        written = λ x. absurd (come m x);
        herbrand = λ k. inr m;
        log_refused = ((λ x. absurd (come-log m x)), (λ r. inr m));
        input_refused = ((λ x. absurd (come-input m x)), (λ r. inr m));
        extended = ((λ x. absurd (come-extended m x)), (λ h. inr m));
        circuits_refused = ((λ x. absurd (come-circuits m x)), (λ h. inr m));
        untouched = λ x. unchanged x;
        left = l;
      }
    where
      come : MayCome answer → answer ≡ status.Done → ⊥
      come (inl a) x = cc
      come (inr (inl a)) x = cc
      come (inr (inr a)) x = cc

      come-log : MayCome answer → answer ≡ status.LogRefused → ⊥
      come-log (inl a) x = cc
      come-log (inr (inl a)) x = cc
      come-log (inr (inr a)) x = cc

      come-input : MayCome answer → answer ≡ status.InputRefused → ⊥
      come-input (inl a) x = cc
      come-input (inr (inl a)) x = cc
      come-input (inr (inr a)) x = cc

      come-extended : MayCome answer → answer ≡ status.Extended → ⊥
      come-extended (inl a) x = cc
      come-extended (inr (inl a)) x = cc
      come-extended (inr (inr a)) x = cc

      come-circuits : MayCome answer → answer ≡ status.CircuitsRefused → ⊥
      come-circuits (inl a) x = cc
      come-circuits (inr (inl a)) x = cc
      come-circuits (inr (inr a)) x = cc

      unchanged : IsUntouched answer → after ≡ Some before
      unchanged (inl a) = absurd (come-log m a)
      unchanged (inr (inl a)) = absurd (come-input m a)
      unchanged (inr (inr (inl a))) = absurd (come-extended m a)
      unchanged (inr (inr (inr (inl a)))) = absurd (come-circuits m a)
      unchanged (inr (inr (inr (inr a)))) = same a

  unverified : (w : Outcome) → IsUnverified w →
      Checks w (bytes_at before n.input) (bytes_at before n.output) (bytes_at before n.log) → after ≡ Some before →
      answer ≡ status_of w → Result
  unverified w u h same e =
      let all : AnswersExactly answer (bytes_at before n.input) (bytes_at before n.output) (bytes_at before n.log) =
      answers {A = Unit {0}} {B = Unit {0}} w answer _ _ _ h (unverified-truth w _ _ u) (inl e) in
      record {
        done = ((λ x. absurd (unverified-not_done w answer u e x)), (λ f. all.verified.1 (run-verified f.run)));
        written = λ x. absurd (unverified-not_done w answer u e x);
        herbrand = λ k. all.verified.1 (run-verified k.run);
        log_refused = all.log_refused;
        input_refused = all.input_refused;
        extended = ((λ x. absurd (unverified-not_extended w answer e x)), (λ h. not-done status.Extended (all.verified.1 (run-verified h.1))));
        circuits_refused = ((λ x. absurd (unverified-not_circuits w answer e x)), (λ h. not-done status.CircuitsRefused (all.verified.1 (run-verified (no-circuits-plain h)))));
        untouched = λ x. same;
        left = λ x. inl same;
      }
    where
      not-done : (t : Status) → (answer ≡ status.Done) ⊎ MayCome answer → (answer ≡ t) ⊎ MayCome answer
      not-done t (inl x) = absurd (unverified-not_done w answer u e x)
      not-done t (inr m) = inr m

  -- what stands where the line could not be put
  stands : (due : Refuted) → Refutes due n before after → (after ≡ Some before) ⊎ IsPart n before after
  stands (Written g) h =
      let w = h.holds.1 in
      inr (record {
        from = h.from;
        to = h.to;
        reversals = h.reversals;
        given = h.given;
        brings = h.brings;
        holds = (
          g,
          w.0,
          w.1,
          record {
            disk = w.2.disk;
            told = w.2.told;
            bytes = inr (length w.0, ap (λ b. unwrap_or b []) w.2.bytes ∙ sym (take-length w.0));
            others = w.2.others;
          },
        );
      })
  stands (Unverified o) h = inl h.2
  stands (Extended line) h = inl h.1
  stands (RefusedText k c) h = inl h.2
  stands (RefusedCircuits w) h = inl h.1
  stands TrueOutput h = inl h.1
  stands ReadFault h = inl h
  stands WriteFault h = inr h
  stands NoMemory h = h

  not-memory : (w : Unfit) → error_of w ≡ refusal.NoMemory → ⊥
  not-memory (unfit.MissingOutput v) e = cc
  not-memory (unfit.StrangeOutput v) e = cc
  not-memory (unfit.StrangeInput v) e = cc
  not-memory (unfit.Reads v u) e = cc

  due-answers : (due : Refuted) → Refutes due n before after → answer ≡ status_of_refuted due → Result
  due-answers (Written g) h e = whole g h e
  due-answers (Unverified o) h e = unverified o h.0 h.1 h.2 e
  due-answers (Extended line) h e = extended-at line h.0 h.1 e
  due-answers (RefusedText k c) h e = refused (inl (h.0, offence-none (bytes_at before n.herbrand) k c h.1)) h.2 e
  due-answers (RefusedCircuits w) h e = refused-cause (error_of w) (not-memory w) h.0 h.1 e
  due-answers TrueOutput h e = refused-cause refusal.TrueOutput (λ x. cc) h.0 h.1 e
  due-answers ReadFault h e = faulty (inl e) (λ x. h) (λ x. inl h)
  due-answers WriteFault h e =
      faulty (inr (inl e)) (λ x. let w : status.WriteFault ≡ status.ReadFault = sym e ∙ x in cc) (λ x. inr h)
  due-answers NoMemory h e =
      faulty (inr (inr e)) (λ x. let w : status.NoMemory ≡ status.ReadFault = sym e ∙ x in cc) (λ x. h)

-- what the status is, where an outcome was due
pub refute-answers : (given : Status) (n : RefuteFiles) (before : Disk) (after : Option Disk) (due : Refuted)
    (old new : SinkView) → Refutes due n before after → IsDue (status_of_refuted due) given old new →
    RefutesExactly given n before after
refute-answers given n before after due old new h (inl e) = due-answers given n before after due h e
refute-answers given n before after due old new h (inr (inl e)) =
    faulty given n before after (inr (inl e.0)) (λ x. let w : status.WriteFault ≡ status.ReadFault = sym e.0 ∙ x in cc)
    (λ x. stands given n before after due h)
refute-answers given n before after due old new h (inr (inr e)) =
    faulty given n before after (inr (inr e.0)) (λ x. let w : status.NoMemory ≡ status.ReadFault = sym e.0 ∙ x in cc)
    (λ x. stands given n before after due h)

outcome-usage : (o : Outcome) → status_of o ≡ status.Usage → ⊥
outcome-usage (outcome.Verified n) e = cc
outcome-usage (outcome.RefusedLine n c) e = cc
outcome-usage (outcome.RefusedEnd c) e = cc
outcome-usage (outcome.RefusedInput r n c) e = cc
outcome-usage outcome.ReadFault e = cc
outcome-usage outcome.NoMemory e = cc

-- the words were understood
pub refute-usage : (o : Refuted) → status_of_refuted o ≡ status.Usage → ⊥
refute-usage (Written g) e = cc
refute-usage (Unverified o) e = outcome-usage o e
refute-usage (Extended n) e = cc
refute-usage (RefusedText k c) e = cc
refute-usage (RefusedCircuits w) e = cc
refute-usage TrueOutput e = cc
refute-usage ReadFault e = cc
refute-usage WriteFault e = cc
refute-usage NoMemory e = cc

pub laws : (n : RefuteFiles) → ToldLaws (told n)
laws n = record {
  gives = λ o given disk after old new h d. refute-answers given n disk after o old new h d;
  no_usage = refute-usage;
  answers = λ given disk after m g. (exact given status.Done _ m g.done, exact given status.Extended _ m g.extended);
}
