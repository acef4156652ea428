-- When each status of `rebuild` comes.
use Rattle.std.proofs.Common.{◌≡◌, ◌⊎◌, inl, inr, ◌∙◌, sym, ap, subst, ℕ, List, [], length, unwrap_or, Option, Some}
use Rattle.std.proofs.Math.Seq.{take-length}
use Rattle.q_logic.specs.Prelude.{PrenexFormula, UndoEntry, CertificateView}
use Rattle.q_io.specs.Files.{Disk, bytes_at}
use Rattle.q_rebuild.specs.Refusals.{IsAccepted}
use Rattle.q_rebuild.specs.declared.error.RebuildError.{RebuildError}
use Rattle.q_rebuild.specs.declared.error.RebuildError.TheVariants as refusal
use Rattle.q_aiger.specs.Circuits.{AreCircuits}
use Rattle.q_aiger.specs.Alike.{AreAlike}
use Rattle.q_aiger.proofs.GateOrders.{one-meaning, offence-none}
use Rattle.q_rebuild.proofs.AlikeAccepted.{accepted-alike}
use Rattle.q_rebuild.proofs.SkolemAccepted.{skolem-accepted}
use Rattle.q_rebuild.proofs.RefusedCircuits.{refused-not_accepted}
use Rattle.q_command.specs.Checks.{Checks, IsFileOf, IsUnverified, IsVerified, MayCome, AnswersExactly}
use Rattle.q_app.specs.RebuiltLines.{status_of_rebuilt}
use Rattle.q_command.specs.Sinks.{SinkView, IsDue}
use Rattle.q_command.specs.Statuses.{status_of}
use Rattle.q_app.specs.Rebuilds.{FiveNames, error_of, OfCircuits, IsWhole, IsPart, AreRefused, OfVerified, Rebuilds, AreNoCircuits, IsUnfit, AreFitting, AreSkolem, RebuildsExactly, told}
use Rattle.q_command.specs.declared.outcome.Outcome.{Outcome}
use Rattle.q_command.specs.declared.status.Status.{Status}
use Rattle.q_command.specs.declared.unfit.Unfit.{Unfit}
use Rattle.q_command.specs.declared.unfit.Unfit.TheVariants as unfit
use Rattle.q_command.specs.declared.status.Status.TheVariants as status
use Rattle.q_app.specs.declared.rebuilt.Rebuilt.{Rebuilt}
use Rattle.q_app.specs.declared.rebuilt.Rebuilt.TheVariants.{Written, Unverified, RefusedText, RefusedCircuits, FalseOutput, ReadFault, WriteFault, NoMemory}
use Rattle.q_command.proofs.FileFormulas.{file-formula}
use Rattle.q_command.proofs.ToldLaws.{ToldLaws, exact}
use Rattle.q_app.proofs.CommandLines.{rebuild-usage}
use Rattle.q_command.proofs.CheckStatus.{answers, one_formula, unverified-truth, unverified-not_done, unverified-not_circuits, verified-run, verified-formulas}

-- circuits of one file are such as a formula of one file may have, or none are
fits-alike : (file : List ℕ) (skolem : List ℕ) (G H : PrenexFormula) (c d : CertificateView) → IsFileOf file G → IsFileOf file H → AreCircuits skolem c → AreCircuits skolem d → IsAccepted G c → IsAccepted H d
fits-alike file skolem G H c d g h p q a =
    let same : AreAlike c d = one-meaning skolem c d p q in
    subst (λ (F : PrenexFormula). IsAccepted F d) (one_formula file G H g h) (accepted-alike c d same.inputs same.names same.trees G a)

module _ (answer : Status) (n : FiveNames) (before : Disk) (after : Option Disk) where
  abbrev Result : Type 0
  Result = RebuildsExactly answer n before after

  abbrev Verified : Type 0
  Verified = IsVerified (bytes_at before n.input) (bytes_at before n.output) (bytes_at before n.log)

  brings-verified : {P : PrenexFormula → PrenexFormula → List UndoEntry → CertificateView → Type 0} → OfCircuits n before P → Verified
  brings-verified x = record { from = x.from; to = x.to; is_input = x.brings.is_input; is_output = x.brings.is_output; holds = (x.brings.log.entries, x.brings.log.leads) }

  -- what is refused does not fit
  not-fitting : AreFitting n before → OfVerified n before IsUnfit → ⊥
  not-fitting f u = refused-not_accepted u.to u.given u.holds.0 u.holds.1 u.holds.2
      (fits-alike (bytes_at before n.output) (bytes_at before n.skolem) f.to u.to f.given u.given f.is_output u.is_output f.circuits u.circuits f.holds)

  not-both : AreFitting n before → AreNoCircuits n before → ⊥
  not-both f (inl x) = x.1 f.given f.circuits
  not-both f (inr u) = not-fitting f u

  no-circuits-verified : AreNoCircuits n before → Verified
  no-circuits-verified (inl x) = x.0
  no-circuits-verified (inr u) = u.verified

  skolem-fitting : AreSkolem n before → AreFitting n before
  skolem-fitting k = record {
    verified = k.verified;
    to = k.to;
    is_output = k.is_output;
    given = k.given;
    circuits = k.circuits;
    holds = skolem-accepted k.to k.given (file-formula (bytes_at before n.output) k.to k.is_output) k.holds;
  }

  whole : (g : ℕ) → IsWhole g n before after → answer ≡ status.Done → Result
  whole g h e =
      let v : Verified = brings-verified h in
      let f : AreFitting n before = record { verified = v; to = h.to; is_output = h.brings.is_output; given = h.given; circuits = h.brings.circuits; holds = h.holds.0 } in
      record {
        done = ((λ x. f), (λ x. inl e));
        written = λ x. (g, h);
        skolem = λ k. inl e;
        log_refused = ((λ x. absurd (let w : status.Done ≡ status.LogRefused = sym e ∙ x in cc)), (λ r. absurd (verified-run _ _ _ v r)));
        input_refused = ((λ x. absurd (let w : status.Done ≡ status.InputRefused = sym e ∙ x in cc)), (λ r. absurd (verified-formulas _ _ _ v r)));
        circuits_refused = ((λ x. absurd (let w : status.Done ≡ status.CircuitsRefused = sym e ∙ x in cc)), (λ a. absurd (not-both f a)));
        untouched = λ x. absurd (elim x [
          | inl a ↦ (let w : status.Done ≡ status.LogRefused = sym e ∙ a in cc)
          | inr b ↦ elim b [
            | inl a ↦ (let w : status.Done ≡ status.InputRefused = sym e ∙ a in cc)
            | inr d ↦ elim d [
              | inl a ↦ (let w : status.Done ≡ status.CircuitsRefused = sym e ∙ a in cc)
              | inr a ↦ (let w : status.Done ≡ status.ReadFault = sym e ∙ a in cc)
            ]
          ]
        ]);
        left = λ x. absurd (elim x [ inl a ↦ (let w : status.Done ≡ status.WriteFault = sym e ∙ a in cc) | inr a ↦ (let w : status.Done ≡ status.NoMemory = sym e ∙ a in cc) ]);
      }

  -- circuits that are refused
  refused : AreNoCircuits n before → after ≡ Some before → answer ≡ status.CircuitsRefused → Result
  refused h same e =
      record {
        done = ((λ x. absurd (let w : status.CircuitsRefused ≡ status.Done = sym e ∙ x in cc)), (λ f. absurd (not-both f h)));
        written = λ x. absurd (let w : status.CircuitsRefused ≡ status.Done = sym e ∙ x in cc);
        skolem = λ k. absurd (not-both (skolem-fitting k) h);
        log_refused = ((λ x. absurd (let w : status.CircuitsRefused ≡ status.LogRefused = sym e ∙ x in cc)), (λ r. absurd (verified-run _ _ _ (no-circuits-verified h) r)));
        input_refused = ((λ x. absurd (let w : status.CircuitsRefused ≡ status.InputRefused = sym e ∙ x in cc)), (λ r. absurd (verified-formulas _ _ _ (no-circuits-verified h) r)));
        circuits_refused = ((λ x. h), (λ x. inl e));
        untouched = λ x. same;
        left = λ x. absurd (elim x [ inl a ↦ (let w : status.CircuitsRefused ≡ status.WriteFault = sym e ∙ a in cc) | inr a ↦ (let w : status.CircuitsRefused ≡ status.NoMemory = sym e ∙ a in cc) ]);
      }

  refused-cause : (c : RebuildError) → (c ≡ refusal.NoMemory → ⊥) → AreRefused c n before → after ≡ Some before → answer ≡ status.CircuitsRefused → Result
  refused-cause c d x same e =
      refused (inr (record { verified = brings-verified x; to = x.to; is_output = x.brings.is_output; given = x.given; circuits = x.brings.circuits; holds = (c, d, x.holds) })) same e

  -- faults and want of memory
  faulty : MayCome answer → (answer ≡ status.ReadFault → after ≡ Some before) → ((answer ≡ status.WriteFault) ⊎ (answer ≡ status.NoMemory) → (after ≡ Some before) ⊎ IsPart n before after) → Result
  faulty m same l =
      record {
        done = ((λ x. absurd (come m x)), (λ f. inr m));
        written = λ x. absurd (come m x);
        skolem = λ k. inr m;
        log_refused = ((λ x. absurd (come-log m x)), (λ r. inr m));
        input_refused = ((λ x. absurd (come-input m x)), (λ r. inr m));
        circuits_refused = ((λ x. absurd (come-circuits m x)), (λ h. inr m));
        untouched = λ x. elim x [
          | inl a ↦ absurd (come-log m a)
          | inr b ↦ elim b [ inl a ↦ absurd (come-input m a) | inr d ↦ elim d [ inl a ↦ absurd (come-circuits m a) | inr a ↦ same a ] ]
        ];
        left = l;
      }
    where
      come : MayCome answer → answer ≡ status.Done → ⊥
      come (inl a) x = cc
      come (inr (inl a)) x = cc
      come (inr (inr a)) x = cc

      come-log : MayCome answer → answer ≡ status.LogRefused → ⊥
      come-log (inl a) x = cc
      come-log (inr (inl a)) x = cc
      come-log (inr (inr a)) x = cc

      come-input : MayCome answer → answer ≡ status.InputRefused → ⊥
      come-input (inl a) x = cc
      come-input (inr (inl a)) x = cc
      come-input (inr (inr a)) x = cc

      come-circuits : MayCome answer → answer ≡ status.CircuitsRefused → ⊥
      come-circuits (inl a) x = cc
      come-circuits (inr (inl a)) x = cc
      come-circuits (inr (inr a)) x = cc

  unverified : (w : Outcome) → IsUnverified w → Checks w (bytes_at before n.input) (bytes_at before n.output) (bytes_at before n.log) → after ≡ Some before → answer ≡ status_of w → Result
  unverified w u h same e =
      let all : AnswersExactly answer (bytes_at before n.input) (bytes_at before n.output) (bytes_at before n.log) = answers {A = Unit {0}} {B = Unit {0}} w answer _ _ _ h (unverified-truth w _ _ u) (inl e) in
      record {
        done = ((λ x. absurd (unverified-not_done w answer u e x)), (λ f. all.verified.1 f.verified));
        written = λ x. absurd (unverified-not_done w answer u e x);
        skolem = λ k. all.verified.1 k.verified;
        log_refused = all.log_refused;
        input_refused = all.input_refused;
        circuits_refused = ((λ x. absurd (unverified-not_circuits w answer e x)), (λ h. not-done (unverified-not_done w answer u e) (all.verified.1 (no-circuits-verified h))));
        untouched = λ x. same;
        left = λ x. inl same;
      }
    where
      not-done : (answer ≡ status.Done → ⊥) → (answer ≡ status.Done) ⊎ MayCome answer → (answer ≡ status.CircuitsRefused) ⊎ MayCome answer
      not-done d (inl x) = absurd (d x)
      not-done d (inr m) = inr m

  -- what stands where the line could not be put
  stands : (due : Rebuilt) → Rebuilds due n before after → (after ≡ Some before) ⊎ IsPart n before after
  stands (Written g) h =
      let w = h.holds.1 in
      inr (record {
        from = h.from;
        to = h.to;
        undo = h.undo;
        given = h.given;
        brings = h.brings;
        holds = (
          g,
          w.0,
          w.1,
          record {
            disk = w.2.disk;
            told = w.2.told;
            bytes = inr (length w.0, ap (λ b. unwrap_or b []) w.2.bytes ∙ sym (take-length w.0));
            others = w.2.others;
          },
        );
      })
  stands (Unverified o) h = inl h.2
  stands (RefusedText k c) h = inl h.2
  stands (RefusedCircuits w) h = inl h.1
  stands FalseOutput h = inl h.1
  stands ReadFault h = inl h
  stands WriteFault h = inr h
  stands NoMemory h = h

  not-memory : (w : Unfit) → error_of w ≡ refusal.NoMemory → ⊥
  not-memory (unfit.MissingOutput v) e = cc
  not-memory (unfit.StrangeOutput v) e = cc
  not-memory (unfit.StrangeInput v) e = cc
  not-memory (unfit.Reads v u) e = cc

  due-answers : (due : Rebuilt) → Rebuilds due n before after → answer ≡ status_of_rebuilt due → Result
  due-answers (Written g) h e = whole g h e
  due-answers (Unverified o) h e = unverified o h.0 h.1 h.2 e
  due-answers (RefusedText k c) h e = refused (inl (h.0, offence-none (bytes_at before n.skolem) k c h.1)) h.2 e
  due-answers (RefusedCircuits w) h e = refused-cause (error_of w) (not-memory w) h.0 h.1 e
  due-answers FalseOutput h e = refused-cause refusal.FalseOutput (λ x. cc) h.0 h.1 e
  due-answers ReadFault h e = faulty (inl e) (λ x. h) (λ x. inl h)
  due-answers WriteFault h e = faulty (inr (inl e)) (λ x. let w : status.WriteFault ≡ status.ReadFault = sym e ∙ x in cc) (λ x. inr h)
  due-answers NoMemory h e = faulty (inr (inr e)) (λ x. let w : status.NoMemory ≡ status.ReadFault = sym e ∙ x in cc) (λ x. h)

  pub rebuild-answers : (due : Rebuilt) (old new : SinkView) → Rebuilds due n before after → IsDue (status_of_rebuilt due) answer old new → Result
  rebuild-answers due old new h (inl e) = due-answers due h e
  rebuild-answers due old new h (inr (inl e)) = faulty (inr (inl e.0)) (λ x. let w : status.WriteFault ≡ status.ReadFault = sym e.0 ∙ x in cc) (λ x. stands due h)
  rebuild-answers due old new h (inr (inr e)) = faulty (inr (inr e.0)) (λ x. let w : status.NoMemory ≡ status.ReadFault = sym e.0 ∙ x in cc) (λ x. stands due h)

pub laws : (n : FiveNames) → ToldLaws (told n)
laws n = record {
  gives = λ o given disk after old new h d. rebuild-answers given n disk after o old new h d;
  no_usage = rebuild-usage;
  answers = λ given disk after m g. exact given status.Done _ m g.done;
}
