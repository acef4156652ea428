-- When each status of `validate` comes.
use Rattle.std.proofs.Common.{◌≡◌, ◌≢◌, inl, inr, ◌∙◌, refl, sym, subst, ℕ, Option, Some}
use Rattle.q_logic.specs.Prelude.{PrenexFormula, CertificateView, trees_of, Strategy, SkolemOf}
use Rattle.q_logic.specs.Branches.{Claim, claim_of, branches}
use Rattle.q_io.specs.Files.{Disk, bytes_at}
use Rattle.q_aiger.specs.Alike.{AreAlike}
use Rattle.q_aiger.proofs.GateOrders.{one-meaning, offence-none}
use Rattle.q_search.specs.Budgets.{IsBelow}
use Rattle.q_certificate.specs.Prelude.{Fits}
use Rattle.q_certificate.specs.declared.error.Misfit.TheVariants as misfit
use Rattle.q_certificate.proofs.AlikeFit.{fits-alike}
use Rattle.q_certificate.proofs.LawfulFit.{lawful-fits}
use Rattle.q_certificate.proofs.Misfits.{misfit-not_fits}
use Rattle.q_validate.specs.Refusals.{IsRefused, misfit_of}
use Rattle.q_validate.specs.declared.error.ValidateError.{ValidateError}
use Rattle.q_validate.specs.declared.error.ValidateError.TheVariants as refusal
use Rattle.q_command.specs.Checks.{IsFileOf, IsFormulaFile, IsNoFormula, MayCome, Exactly}
use Rattle.q_command.specs.Sinks.{SinkView, IsDue}
use Rattle.q_command.specs.declared.status.Status.{Status}
use Rattle.q_command.specs.declared.unfit.Unfit.{Unfit}
use Rattle.q_command.specs.declared.unfit.Unfit.TheVariants as unfit
use Rattle.q_command.specs.declared.status.Status.TheVariants as status
use Rattle.q_command.proofs.CheckStatus.{one_formula, no_offence}
use Rattle.q_command.proofs.ToldLaws.{ToldLaws, exact}
use Rattle.q_command.proofs.FileFormulas.{file-formula}
use Rattle.q_run_validate.specs.ValidatedLines.{status_of_validated}
use Rattle.q_run_validate.specs.Validates.{ValidateFiles, error_of, OfFiles, Says, Validates, IsCut, IsUnfit, AreValid, AreInvalid, AreUndecided, AreNoCircuits, ValidatesExactly, told}
use Rattle.q_run_validate.specs.declared.validated.Validated.{Validated}
use Rattle.q_run_validate.specs.declared.validated.Validated.TheVariants.{Valid, Invalid, Unknown, RefusedInput, RefusedText, RefusedCircuits, ReadFault, NoMemory}

-- what the files hold is told by the formula, the claim and what fits
pub record IsSame (F G : PrenexFormula) (c d : CertificateView) : Type 0 where
  pub formula : F ≡ G
  pub alike : AreAlike c d

claim-alike : (F : PrenexFormula) (c d : CertificateView) → AreAlike c d → claim_of F c ≡ claim_of F d
claim-alike F c d a i = record { formula = F; inputs = a.inputs i; circuits = λ x. a.trees x i }

trees-alike : (c d : CertificateView) → AreAlike c d → trees_of c ≡ trees_of d
trees-alike c d a i = λ x. a.trees x i

-- an answer that is due, one that does not come, and one in whose place a fault came
due : (given s : Status) (P : Type 0) → given ≡ s → P → Exactly given s P
due given s P e p = ((λ x. p), (λ x. inl e))

not-due : (given s t : Status) (P : Type 0) → given ≡ s → (s ≡ t → ⊥) → (P → ⊥) → Exactly given t P
not-due given s t P e d h = ((λ x. absurd (d (sym e ∙ x))), (λ p. absurd (h p)))

faulty : (given t : Status) (P : Type 0) → MayCome given → (MayCome t → ⊥) → Exactly given t P
faulty given t P m d = ((λ x. absurd (d (subst MayCome x m))), (λ p. inr m))

module _ (given : Status) (n : ValidateFiles) (budget : Option ℕ) (before : Disk) (after : Option Disk) where
  abbrev Result : Type 0
  Result = ValidatesExactly given n budget before after

  -- one formula and circuits of one meaning
  one-case : {P Q : PrenexFormula → CertificateView → Type 0} → (p : OfFiles n before P) → (q : OfFiles n before Q) → IsSame q.formula p.formula q.given p.given
  one-case p q = record {
    formula = one_formula (bytes_at before n.input) q.formula p.formula q.is_input p.is_input;
    alike = one-meaning (bytes_at before n.cert) q.given p.given q.circuits p.circuits;
  }

  fits-same : (F G : PrenexFormula) (c d : CertificateView) → IsSame F G c d → Fits F.prefix c → Fits G.prefix d
  fits-same F G c d s f =
      subst (λ (H : PrenexFormula). Fits H.prefix d) s.formula (fits-alike c d s.alike.inputs s.alike.names s.alike.trees F.prefix f)

  cut-same : (F G : PrenexFormula) (c d : CertificateView) → IsSame F G c d → IsCut F c budget → IsCut G d budget
  cut-same F G c d s h =
      subst (λ (H : PrenexFormula). IsCut H d budget) s.formula
      (subst (λ (q : Claim). IsBelow budget (branches q)) (claim-alike F c d s.alike) h)

  skolem-same : (F G : PrenexFormula) (c d : CertificateView) → IsSame F G c d → SkolemOf F (trees_of c) → SkolemOf G (trees_of d)
  skolem-same F G c d s h =
      subst (λ (H : PrenexFormula). SkolemOf H (trees_of d)) s.formula
      (subst (λ (t : Strategy). SkolemOf F t) (trees-alike c d s.alike) h)

  unfit-not_fits : (F : PrenexFormula) (c : CertificateView) → IsUnfit F c → Fits F.prefix c → ⊥
  unfit-not_fits F c u f = misfit-not_fits F.prefix c (misfit_of u.0) (other u.0 u.1) u.2 f
    where
      other : (e : ValidateError) → (e ≡ refusal.NoMemory → ⊥) → misfit_of e ≡ misfit.NoMemory → ⊥
      other (refusal.MissingOutput v) d h = cc
      other (refusal.StrangeOutput v) d h = cc
      other (refusal.StrangeInput v) d h = cc
      other (refusal.Reads v u) d h = cc
      other refusal.NoMemory d h = d refl

  skolem-fits : (F : PrenexFormula) (c : CertificateView) → IsFileOf (bytes_at before n.input) F → SkolemOf F (trees_of c) → Fits F.prefix c
  skolem-fits F c f k = lawful-fits F.prefix c (file-formula (bytes_at before n.input) F f).distinct k.lawful

  -- what fits is refused by none
  fitting-circuits : (p : OfFiles n before (λ F c. Fits F.prefix c)) → AreNoCircuits n before → ⊥
  fitting-circuits p (inl x) = x.1 p.given p.circuits
  fitting-circuits p (inr u) = unfit-not_fits u.formula u.given u.holds (fits-same p.formula u.formula p.given u.given (one-case u p) p.holds)

  fitting : {P : PrenexFormula → CertificateView → Type 0} → (p : OfFiles n before P) → Fits p.formula.prefix p.given → OfFiles n before (λ F c. Fits F.prefix c)
  fitting p f = record { formula = p.formula; given = p.given; is_input = p.is_input; circuits = p.circuits; holds = f }

  valid-fitting : AreValid n budget before → OfFiles n before (λ F c. Fits F.prefix c)
  valid-fitting p = fitting p (skolem-fits p.formula p.given p.is_input p.holds.0)

  valid : AreValid n budget before → after ≡ Some before → given ≡ status.Done → Result
  valid p same e = record {
    done = due given status.Done (AreValid n budget before) e p;
    invalid = not-due given status.Done status.Invalid (AreInvalid n budget before) e (λ x. cc)
        (λ q. q.holds.1 (skolem-same p.formula q.formula p.given q.given (one-case q p) p.holds.0));
    unknown = not-due given status.Done status.Unknown (AreUndecided n budget before) e (λ x. cc)
        (λ q. p.holds.1 (cut-same q.formula p.formula q.given p.given (one-case p q) q.holds.1));
    circuits_refused = not-due given status.Done status.CircuitsRefused (AreNoCircuits n before) e (λ x. cc) (fitting-circuits (valid-fitting p));
    input_refused = not-due given status.Done status.InputRefused (IsNoFormula (bytes_at before n.input)) e (λ x. cc) (λ z. z p.formula p.is_input);
    untouched = same;
  }

  invalid : AreInvalid n budget before → after ≡ Some before → given ≡ status.Invalid → Result
  invalid p same e = record {
    done = not-due given status.Invalid status.Done (AreValid n budget before) e (λ x. cc)
        (λ q. p.holds.1 (skolem-same q.formula p.formula q.given p.given (one-case p q) q.holds.0));
    invalid = due given status.Invalid (AreInvalid n budget before) e p;
    unknown = not-due given status.Invalid status.Unknown (AreUndecided n budget before) e (λ x. cc)
        (λ q. p.holds.2 (cut-same q.formula p.formula q.given p.given (one-case p q) q.holds.1));
    circuits_refused = not-due given status.Invalid status.CircuitsRefused (AreNoCircuits n before) e (λ x. cc) (fitting-circuits (fitting p p.holds.0));
    input_refused = not-due given status.Invalid status.InputRefused (IsNoFormula (bytes_at before n.input)) e (λ x. cc) (λ z. z p.formula p.is_input);
    untouched = same;
  }

  undecided : AreUndecided n budget before → after ≡ Some before → given ≡ status.Unknown → Result
  undecided p same e = record {
    done = not-due given status.Unknown status.Done (AreValid n budget before) e (λ x. cc)
        (λ q. q.holds.1 (cut-same p.formula q.formula p.given q.given (one-case q p) p.holds.1));
    invalid = not-due given status.Unknown status.Invalid (AreInvalid n budget before) e (λ x. cc)
        (λ q. q.holds.2 (cut-same p.formula q.formula p.given q.given (one-case q p) p.holds.1));
    unknown = due given status.Unknown (AreUndecided n budget before) e p;
    circuits_refused = not-due given status.Unknown status.CircuitsRefused (AreNoCircuits n before) e (λ x. cc) (fitting-circuits (fitting p p.holds.0));
    input_refused = not-due given status.Unknown status.InputRefused (IsNoFormula (bytes_at before n.input)) e (λ x. cc) (λ z. z p.formula p.is_input);
    untouched = same;
  }

  no-circuits-formula : AreNoCircuits n before → IsFormulaFile (bytes_at before n.input)
  no-circuits-formula (inl x) = x.0
  no-circuits-formula (inr u) = (u.formula, u.is_input)

  refused : AreNoCircuits n before → after ≡ Some before → given ≡ status.CircuitsRefused → Result
  refused h same e = record {
    done = not-due given status.CircuitsRefused status.Done (AreValid n budget before) e (λ x. cc) (λ q. fitting-circuits (valid-fitting q) h);
    invalid = not-due given status.CircuitsRefused status.Invalid (AreInvalid n budget before) e (λ x. cc) (λ q. fitting-circuits (fitting q q.holds.0) h);
    unknown = not-due given status.CircuitsRefused status.Unknown (AreUndecided n budget before) e (λ x. cc) (λ q. fitting-circuits (fitting q q.holds.0) h);
    circuits_refused = due given status.CircuitsRefused (AreNoCircuits n before) e h;
    input_refused = not-due given status.CircuitsRefused status.InputRefused (IsNoFormula (bytes_at before n.input)) e (λ x. cc)
        (λ z. let f = no-circuits-formula h in z f.0 f.1);
    untouched = same;
  }

  no-formula : IsNoFormula (bytes_at before n.input) → after ≡ Some before → given ≡ status.InputRefused → Result
  no-formula h same e = record {
    done = not-due given status.InputRefused status.Done (AreValid n budget before) e (λ x. cc) (λ q. h q.formula q.is_input);
    invalid = not-due given status.InputRefused status.Invalid (AreInvalid n budget before) e (λ x. cc) (λ q. h q.formula q.is_input);
    unknown = not-due given status.InputRefused status.Unknown (AreUndecided n budget before) e (λ x. cc) (λ q. h q.formula q.is_input);
    circuits_refused = not-due given status.InputRefused status.CircuitsRefused (AreNoCircuits n before) e (λ x. cc)
        (λ q. let f = no-circuits-formula q in h f.0 f.1);
    input_refused = due given status.InputRefused (IsNoFormula (bytes_at before n.input)) e h;
    untouched = same;
  }

  fault : MayCome given → after ≡ Some before → Result
  fault m same = record {
    done = faulty given status.Done (AreValid n budget before) m (λ x. elim x [ inl a ↦ cc | inr b ↦ elim b [ inl a ↦ cc | inr a ↦ cc ] ]);
    invalid = faulty given status.Invalid (AreInvalid n budget before) m (λ x. elim x [ inl a ↦ cc | inr b ↦ elim b [ inl a ↦ cc | inr a ↦ cc ] ]);
    unknown = faulty given status.Unknown (AreUndecided n budget before) m (λ x. elim x [ inl a ↦ cc | inr b ↦ elim b [ inl a ↦ cc | inr a ↦ cc ] ]);
    circuits_refused = faulty given status.CircuitsRefused (AreNoCircuits n before) m (λ x. elim x [ inl a ↦ cc | inr b ↦ elim b [ inl a ↦ cc | inr a ↦ cc ] ]);
    input_refused = faulty given status.InputRefused (IsNoFormula (bytes_at before n.input)) m (λ x. elim x [ inl a ↦ cc | inr b ↦ elim b [ inl a ↦ cc | inr a ↦ cc ] ]);
    untouched = same;
  }

  refused-cause : (c : ValidateError) → (c ≡ refusal.NoMemory → ⊥) → OfFiles n before (λ F d. IsRefused F d c) → after ≡ Some before → given ≡ status.CircuitsRefused → Result
  refused-cause c d x same e =
      refused (inr (record { formula = x.formula; given = x.given; is_input = x.is_input; circuits = x.circuits; holds = (c, d, x.holds) })) same e

  not-memory : (w : Unfit) → error_of w ≡ refusal.NoMemory → ⊥
  not-memory (unfit.MissingOutput v) e = cc
  not-memory (unfit.StrangeOutput v) e = cc
  not-memory (unfit.StrangeInput v) e = cc
  not-memory (unfit.Reads v u) e = cc

  due-answers : (o : Validated) → Says o n budget before → after ≡ Some before → given ≡ status_of_validated o → Result
  due-answers Valid h same e =
      valid (record { formula = h.formula; given = h.given; is_input = h.is_input; circuits = h.circuits; holds = (h.holds.1.1, h.holds.1.0) }) same e
  due-answers (Invalid line) h same e =
      let a = h.holds.1 in
      invalid (record { formula = h.formula; given = h.given; is_input = h.is_input; circuits = h.circuits; holds = (a.0, a.1.1, a.1.0) }) same e
  due-answers Unknown h same e =
      undecided (record { formula = h.formula; given = h.given; is_input = h.is_input; circuits = h.circuits; holds = h.holds }) same e
  due-answers (RefusedInput k c) h same e = no-formula (λ F f. no_offence (bytes_at before n.input) F k c h f) same e
  due-answers (RefusedText k c) h same e = refused (inl (h.0, offence-none (bytes_at before n.cert) k c h.1)) same e
  due-answers (RefusedCircuits w) h same e = refused-cause (error_of w) (not-memory w) h same e
  due-answers ReadFault h same e = fault (inl e) same
  due-answers NoMemory h same e = fault (inr (inr e)) same

  pub validate-answers : (o : Validated) (old new : SinkView) → Validates o n budget before after → IsDue (status_of_validated o) given old new → Result
  validate-answers o old new h (inl e) = due-answers o h.0 h.1 e
  validate-answers o old new h (inr (inl e)) = fault (inr (inl e.0)) h.1
  validate-answers o old new h (inr (inr e)) = fault (inr (inr e.0)) h.1

pub validate-usage : (o : Validated) → status_of_validated o ≢ status.Usage
validate-usage Valid e = cc
validate-usage (Invalid line) e = cc
validate-usage Unknown e = cc
validate-usage (RefusedInput k c) e = cc
validate-usage (RefusedText k c) e = cc
validate-usage (RefusedCircuits w) e = cc
validate-usage ReadFault e = cc
validate-usage NoMemory e = cc

pub laws : (n : ValidateFiles) (budget : Option ℕ) → ToldLaws (told n budget)
laws n budget = record {
  gives = λ o given disk after old new h d. validate-answers given n budget disk after o old new h d;
  no_usage = validate-usage;
  answers = λ given disk after m g. (exact given status.Done _ m g.done, exact given status.Invalid _ m g.invalid, exact given status.Unknown _ m g.unknown);
}
