-- When each status of `miter` comes.
use Rattle.std.proofs.Common.{◌≡◌, ◌≢◌, ◌⊎◌, inl, inr, ◌∙◌, refl, sym, ap, subst, ℕ, List, [], length, unwrap_or, Option, Some}
use Rattle.std.proofs.Math.Seq.{take-length}
use Rattle.q_logic.specs.Prelude.{PrenexFormula, CertificateView, Matrix, standard}
use Rattle.q_io.specs.Files.{Disk, bytes_at, HoldsBytes, MayHoldFront}
use Rattle.q_aiger.specs.Alike.{AreAlike}
use Rattle.q_aiger.proofs.GateOrders.{one-meaning, offence-none}
use Rattle.q_certificate.specs.Prelude.{Fits}
use Rattle.q_certificate.specs.declared.error.Misfit.{Misfit}
use Rattle.q_certificate.specs.declared.error.Misfit.TheVariants as misfit
use Rattle.q_certificate.proofs.AlikeFit.{fits-alike}
use Rattle.q_certificate.proofs.Misfits.{misfit-not_fits}
use Rattle.q_encode.specs.declared.side.Side.{Side}
use Rattle.q_encode.specs.Sides.{turned}
use Rattle.q_encode.specs.Sums.{IsSmall, AreIn, sums_of}
use Rattle.q_cnf.specs.Cnf.{cnf_text}
use Rattle.q_command.specs.Checks.{IsFileOf, IsFormulaFile, IsNoFormula, MayCome, Exactly}
use Rattle.q_command.specs.Sinks.{SinkView, IsDue}
use Rattle.q_command.specs.declared.status.Status.{Status}
use Rattle.q_command.specs.declared.status.Status.TheVariants as status
use Rattle.q_command.specs.declared.unfit.Unfit.{Unfit}
use Rattle.q_command.specs.declared.unfit.Unfit.TheVariants as unfit
use Rattle.q_command.proofs.CheckStatus.{one_formula, no_offence}
use Rattle.q_command.proofs.ToldLaws.{ToldLaws, exact}
use Rattle.q_run_miter.specs.MiteredLines.{status_of_mitered}
use Rattle.q_run_miter.specs.Mitering.{MiterFiles, OfFiles, AreFitting, AreTooLarge, AreNoCircuits, IsUnfit, IsWhole, IsPart, IsUntouched, Miters, MitersExactly, error_of, told}
use Rattle.q_run_miter.specs.declared.mitered.Mitered.{Mitered}
use Rattle.q_run_miter.specs.declared.mitered.Mitered.TheVariants.{Written, RefusedInput, RefusedText, RefusedCircuits, TooLarge, ReadFault, WriteFault, NoMemory}
use Rattle.q_run_miter.proofs.GateCounts.{one-count}

-- an answer that is due, one that does not come, and one in whose place a fault came
due : (given s : Status) (P : Type 0) → given ≡ s → P → Exactly given s P
due given s P e p = ((λ x. p), (λ x. inl e))

not-due : (given s t : Status) (P : Type 0) → given ≡ s → (s ≡ t → ⊥) → (P → ⊥) → Exactly given t P
not-due given s t P e d h = ((λ x. absurd (d (sym e ∙ x))), (λ p. absurd (h p)))

faulty : (given t : Status) (P : Type 0) → MayCome given → (MayCome t → ⊥) → Exactly given t P
faulty given t P m d = ((λ x. absurd (d (subst MayCome x m))), (λ p. inr m))

done-not : MayCome status.Done → ⊥
done-not (inl a) = cc
done-not (inr (inl a)) = cc
done-not (inr (inr a)) = cc

refused-not : MayCome status.CircuitsRefused → ⊥
refused-not (inl a) = cc
refused-not (inr (inl a)) = cc
refused-not (inr (inr a)) = cc

input-not : MayCome status.InputRefused → ⊥
input-not (inl a) = cc
input-not (inr (inl a)) = cc
input-not (inr (inr a)) = cc

done-touched : IsUntouched status.Done → ⊥
done-touched (inl a) = cc
done-touched (inr (inl a)) = cc
done-touched (inr (inr a)) = cc

module _ (given : Status) (side : Side) (n : MiterFiles) (before : Disk) (after : Option Disk) where
  abbrev Result : Type 0
  Result = MitersExactly given side n before after

  -- what fits one meaning of the files fits the other
  fitting-same : (p : OfFiles n before (AreFitting side)) → (q : CertificateView) (G : PrenexFormula) → G ≡ p.formula → AreAlike p.given q →
      length q.gates ≡ length p.given.gates → AreFitting side G q
  fitting-same p q G e a l = (
    subst (λ (H : PrenexFormula). Fits (turned side H.prefix) q) (sym e) (fits-alike p.given q a.inputs a.names a.trees (turned side p.formula.prefix) p.holds.0),
    subst (λ (H : PrenexFormula). IsSmall side H q) (sym e) (subst (λ (k : ℕ). AreIn standard (sums_of side p.formula k)) (sym l) p.holds.1),
  )

  other-fitting : {Q : PrenexFormula → CertificateView → Type 0} → OfFiles n before (AreFitting side) → (q : OfFiles n before Q) → AreFitting side q.formula q.given
  other-fitting p q =
      fitting-same p q.given q.formula (one_formula (bytes_at before n.input) q.formula p.formula q.is_input p.is_input)
      (one-meaning (bytes_at before n.cert) p.given q.given p.circuits q.circuits) (one-count (bytes_at before n.cert) q.given p.given q.circuits p.circuits)

  fitting-circuits : OfFiles n before (AreFitting side) → AreNoCircuits side n before → ⊥
  fitting-circuits p (inl x) = x.1 p.given p.circuits
  fitting-circuits p (inr (inl u)) = misfit-not_fits (turned side u.formula.prefix) u.given u.holds.0 u.holds.1 u.holds.2 (other-fitting p u).0
  fitting-circuits p (inr (inr u)) = u.holds.1 (other-fitting p u).1

  no-circuits-formula : AreNoCircuits side n before → IsFormulaFile (bytes_at before n.input)
  no-circuits-formula (inl x) = x.0
  no-circuits-formula (inr (inl u)) = (u.formula, u.is_input)
  no-circuits-formula (inr (inr u)) = (u.formula, u.is_input)

  whole-fitting : (k : ℕ) → IsWhole k side n before after → OfFiles n before (AreFitting side)
  whole-fitting k h =
      record { formula = h.formula; given = h.given; is_input = h.is_input; circuits = h.circuits; holds = (h.holds.1.made.fits, h.holds.1.made.small) }

  whole-part : (k : ℕ) → IsWhole k side n before after → IsPart side n before after
  whole-part k h =
      let w : HoldsBytes n.output (cnf_text h.holds.0) before after = h.holds.3 in
      record {
        formula = h.formula;
        given = h.given;
        is_input = h.is_input;
        circuits = h.circuits;
        holds = (
          h.holds.0,
          h.holds.1.made,
          record {
            disk = w.disk;
            told = w.told;
            bytes = inr (length (cnf_text h.holds.0), ap (λ (b : Option (List ℕ)). unwrap_or b []) w.bytes ∙ sym (take-length (cnf_text h.holds.0)));
            others = w.others;
          },
        );
      }

  no-left : (s : Status) → given ≡ s → (MayCome s → ⊥) → (given ≡ status.WriteFault) ⊎ (given ≡ status.NoMemory) → ⊥
  no-left s e d (inl a) = d (subst MayCome e (inr (inl a)))
  no-left s e d (inr a) = d (subst MayCome e (inr (inr a)))

  whole : (k : ℕ) → IsWhole k side n before after → given ≡ status.Done → Result
  whole k h e = record {
    done = due given status.Done (OfFiles n before (AreFitting side)) e (whole-fitting k h);
    written = λ x. (k, h);
    circuits_refused = not-due given status.Done status.CircuitsRefused (AreNoCircuits side n before) e (λ x. cc) (fitting-circuits (whole-fitting k h));
    input_refused = not-due given status.Done status.InputRefused (IsNoFormula (bytes_at before n.input)) e (λ x. cc) (λ z. z h.formula h.is_input);
    untouched = λ x. absurd (done-touched (subst IsUntouched e x));
    left = λ x. absurd (no-left status.Done e done-not x);
  }

  refused : AreNoCircuits side n before → after ≡ Some before → given ≡ status.CircuitsRefused → Result
  refused h same e = record {
    done = not-due given status.CircuitsRefused status.Done (OfFiles n before (AreFitting side)) e (λ x. cc) (λ p. fitting-circuits p h);
    written = λ x. absurd (let w : status.CircuitsRefused ≡ status.Done = sym e ∙ x in cc);
    circuits_refused = due given status.CircuitsRefused (AreNoCircuits side n before) e h;
    input_refused = not-due given status.CircuitsRefused status.InputRefused (IsNoFormula (bytes_at before n.input)) e (λ x. cc)
        (λ z. let f = no-circuits-formula h in z f.0 f.1);
    untouched = λ x. same;
    left = λ x. absurd (no-left status.CircuitsRefused e refused-not x);
  }

  no-formula : IsNoFormula (bytes_at before n.input) → after ≡ Some before → given ≡ status.InputRefused → Result
  no-formula h same e = record {
    done = not-due given status.InputRefused status.Done (OfFiles n before (AreFitting side)) e (λ x. cc) (λ p. h p.formula p.is_input);
    written = λ x. absurd (let w : status.InputRefused ≡ status.Done = sym e ∙ x in cc);
    circuits_refused = not-due given status.InputRefused status.CircuitsRefused (AreNoCircuits side n before) e (λ x. cc)
        (λ q. let f = no-circuits-formula q in h f.0 f.1);
    input_refused = due given status.InputRefused (IsNoFormula (bytes_at before n.input)) e h;
    untouched = λ x. same;
    left = λ x. absurd (no-left status.InputRefused e input-not x);
  }

  -- a fault, and what it leaves
  fault : MayCome given → (after ≡ Some before) ⊎ IsPart side n before after → (IsUntouched given → after ≡ Some before) → Result
  fault m l u = record {
    done = faulty given status.Done (OfFiles n before (AreFitting side)) m done-not;
    written = λ x. absurd (done-not (subst MayCome x m));
    circuits_refused = faulty given status.CircuitsRefused (AreNoCircuits side n before) m refused-not;
    input_refused = faulty given status.InputRefused (IsNoFormula (bytes_at before n.input)) m input-not;
    untouched = u;
    left = λ x. l;
  }

  write-touched : (s : Status) → given ≡ s → (s ≡ status.WriteFault) ⊎ (s ≡ status.NoMemory) → IsUntouched given → ⊥
  write-touched s e (inl a) u = go (subst IsUntouched (e ∙ a) u)
    where
      go : IsUntouched status.WriteFault → ⊥
      go (inl z) = cc
      go (inr (inl z)) = cc
      go (inr (inr z)) = cc
  write-touched s e (inr a) u = go (subst IsUntouched (e ∙ a) u)
    where
      go : IsUntouched status.NoMemory → ⊥
      go (inl z) = cc
      go (inr (inl z)) = cc
      go (inr (inr z)) = cc

  not-memory : (w : Unfit) → error_of w ≡ misfit.NoMemory → ⊥
  not-memory (unfit.MissingOutput v) e = cc
  not-memory (unfit.StrangeOutput v) e = cc
  not-memory (unfit.StrangeInput v) e = cc
  not-memory (unfit.Reads v u) e = cc

  due-answers : (o : Mitered) → Miters o side n before after → given ≡ status_of_mitered o → Result
  due-answers (Written k) h e = whole k h e
  due-answers (RefusedInput k c) h e = no-formula (λ F f. no_offence (bytes_at before n.input) F k c h.0 f) h.1 e
  due-answers (RefusedText k c) h e = refused (inl (h.0, offence-none (bytes_at before n.cert) k c h.1)) h.2 e
  due-answers (RefusedCircuits w) h e =
      let x = h.0 in
      refused (inr (inl (record { formula = x.formula; given = x.given; is_input = x.is_input; circuits = x.circuits; holds = (error_of w, not-memory w, x.holds) }))) h.1 e
  due-answers TooLarge h e = refused (inr (inr h.0)) h.1 e
  due-answers ReadFault h e = fault (inl e) (inl h) (λ u. h)
  due-answers WriteFault h e = fault (inr (inl e)) (inr h) (λ u. absurd (write-touched status.WriteFault e (inl refl) u))
  due-answers NoMemory h e = fault (inr (inr e)) h (λ u. absurd (write-touched status.NoMemory e (inr refl) u))

  -- what the files hold, whatever is due
  stands : (o : Mitered) → Miters o side n before after → (after ≡ Some before) ⊎ IsPart side n before after
  stands (Written k) h = inr (whole-part k h)
  stands (RefusedInput k c) h = inl h.1
  stands (RefusedText k c) h = inl h.2
  stands (RefusedCircuits w) h = inl h.1
  stands TooLarge h = inl h.1
  stands ReadFault h = inl h
  stands WriteFault h = inr h
  stands NoMemory h = h

  pub miter-answers : (o : Mitered) (old new : SinkView) → Miters o side n before after → IsDue (status_of_mitered o) given old new → Result
  miter-answers o old new h (inl e) = due-answers o h e
  miter-answers o old new h (inr (inl e)) = fault (inr (inl e.0)) (stands o h) (λ u. absurd (write-touched status.WriteFault e.0 (inl refl) u))
  miter-answers o old new h (inr (inr e)) = fault (inr (inr e.0)) (stands o h) (λ u. absurd (write-touched status.NoMemory e.0 (inr refl) u))

pub miter-usage : (o : Mitered) → status_of_mitered o ≢ status.Usage
miter-usage (Written k) e = cc
miter-usage (RefusedInput k c) e = cc
miter-usage (RefusedText k c) e = cc
miter-usage (RefusedCircuits w) e = cc
miter-usage TooLarge e = cc
miter-usage ReadFault e = cc
miter-usage WriteFault e = cc
miter-usage NoMemory e = cc

pub laws : (n : MiterFiles) (side : Side) → ToldLaws (told n side)
laws n side = record {
  gives = λ o given disk after old new h d. miter-answers given side n disk after o old new h d;
  no_usage = miter-usage;
  answers = λ given disk after m g. exact given status.Done _ m g.done;
}
