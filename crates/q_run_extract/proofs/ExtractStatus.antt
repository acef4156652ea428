-- When each status of `extract` comes.
use Rattle.std.proofs.Common.{◌≡◌, ◌≢◌, ◌⊎◌, inl, inr, ◌∙◌, sym, ap, subst, ℕ, List, [], length, unwrap_or, Ok, Err, Option, Some}
use Rattle.std.proofs.Math.Seq.{take-length}
use Rattle.q_logic.specs.Prelude.{PrenexFormula, CertificateView, trees_of, Holds}
use Rattle.q_logic.proofs.Soundness.{from_skolem}
use Rattle.q_logic.proofs.Falsity.{herbrand-false}
use Rattle.q_io.specs.Files.{Disk, bytes_at}
use Rattle.q_qrp.specs.Lines.{Proof}
use Rattle.q_qrp.specs.Offences.{parse, Offence}
use Rattle.q_qrp.specs.declared.error.TraceError.TheVariants as reading
use Rattle.q_qrp.specs.declared.trace.Verdict.TheVariants as verdict
use Rattle.q_command.specs.Checks.{IsFileOf, IsNoFormula, Exactly, MayCome}
use Rattle.q_command.specs.Sinks.{SinkView, IsDue}
use Rattle.q_command.specs.Texts.{HoldsCircuits, MayHoldCircuits}
use Rattle.q_command.specs.declared.status.Status.{Status}
use Rattle.q_command.specs.declared.status.Status.TheVariants as status
use Rattle.q_command.proofs.CheckStatus.{one_formula, no_offence}
use Rattle.q_command.proofs.FileFormulas.{file-formula}
use Rattle.q_command.proofs.ToldLaws.{ToldLaws, exact}
use Rattle.q_run_extract.specs.declared.extract.Claim.TheVariants as claim
use Rattle.q_run_extract.specs.declared.extracted.Extracted.{Extracted}
use Rattle.q_run_extract.specs.declared.extracted.Extracted.TheVariants as outcome
use Rattle.q_run_extract.specs.ExtractedLines.{status_of_extracted}
use Rattle.q_run_extract.specs.Extracts.{ExtractFiles, OfFiles, IsTraceOf, ProvesTrue, ProvesFalse, SaysUnknown, ProvesNothing, FailsAt, AreSkolem, AreHerbrand, IsTrue, IsFalse, IsPart, Extracts, AreTrue, AreFalse, AreUnknown, AreNoProof, Leaves, IsUntouched, ExtractsExactly, told}

-- an answer that is due, one that does not come, and one in whose place a fault came
due : (given s : Status) (P : Type 0) → given ≡ s → P → Exactly given s P
due given s P e p = ((λ x. p), (λ x. inl e))

not-due : (given s t : Status) (P : Type 0) → given ≡ s → (s ≡ t → ⊥) → (P → ⊥) → Exactly given t P
not-due given s t P e d h = ((λ x. absurd (d (sym e ∙ x))), (λ p. absurd (h p)))

faulty : (given t : Status) (P : Type 0) → MayCome given → (MayCome t → ⊥) → Exactly given t P
faulty given t P m d = ((λ x. absurd (d (subst MayCome x m))), (λ p. inr m))

one-proof : (bytes : List ℕ) (p q : Proof) → IsTraceOf bytes p → IsTraceOf bytes q → p ≡ q
one-proof bytes p q f g = let e : parse 1099511627776 bytes ≡ Ok p = f in let d : parse 1099511627776 bytes ≡ Ok q = g in cc

no-trace : (bytes : List ℕ) (p : Proof) (k c : ℕ) → Offence 1099511627776 bytes k c → IsTraceOf bytes p → ⊥
no-trace bytes p k c o f = let e : parse 1099511627776 bytes ≡ Ok p = f in let d : parse 1099511627776 bytes ≡ Err (reading.Refused k c) = o in cc

-- of one formula and one trace two things are so
both : (n : ExtractFiles) (d : Disk) {P Q : PrenexFormula → Proof → Type 0} → (a : OfFiles n d P) → OfFiles n d Q → Q a.formula a.proof
both n d {P} {Q} a b =
    subst (λ (F : PrenexFormula). Q F a.proof) (one_formula (bytes_at d n.input) b.formula a.formula b.is_input a.is_input)
    (subst (λ (p : Proof). Q b.formula p) (one-proof (bytes_at d n.trace) b.proof a.proof b.is_trace a.is_trace) b.holds)

abbrev pub of : (n : ExtractFiles) (d : Disk) {P : PrenexFormula → Proof → Type 0} → (a : OfFiles n d P) → {Q : PrenexFormula → Proof → Type 0} → Q a.formula a.proof → OfFiles n d Q
of n d a h = record { formula = a.formula; proof = a.proof; is_input = a.is_input; is_trace = a.is_trace; holds = h }

-- the four cases of a formula and a trace shut each other out
true-false : (F : PrenexFormula) (p : Proof) → ProvesTrue F p → ProvesFalse F p → ⊥
true-false F p a b = let e : verdict.Sat ≡ verdict.Unsat = sym a.0 ∙ b.0 in cc

true-unknown : (F : PrenexFormula) (p : Proof) → ProvesTrue F p → SaysUnknown F p → ⊥
true-unknown F p a b = let e : verdict.Sat ≡ verdict.Unknown = sym a.0 ∙ b in cc

false-unknown : (F : PrenexFormula) (p : Proof) → ProvesFalse F p → SaysUnknown F p → ⊥
false-unknown F p a b = let e : verdict.Unsat ≡ verdict.Unknown = sym a.0 ∙ b in cc

true-nothing : (F : PrenexFormula) (p : Proof) → ProvesTrue F p → ProvesNothing F p → ⊥
true-nothing F p a (inl b) = b.1 a.1
true-nothing F p a (inr b) = let e : verdict.Sat ≡ verdict.Unsat = sym a.0 ∙ b.0 in cc

false-nothing : (F : PrenexFormula) (p : Proof) → ProvesFalse F p → ProvesNothing F p → ⊥
false-nothing F p a (inl b) = let e : verdict.Unsat ≡ verdict.Sat = sym a.0 ∙ b.0 in cc
false-nothing F p a (inr b) = b.1 a.1

unknown-nothing : (F : PrenexFormula) (p : Proof) → SaysUnknown F p → ProvesNothing F p → ⊥
unknown-nothing F p a (inl b) = let e : verdict.Unknown ≡ verdict.Sat = sym a ∙ b.0 in cc
unknown-nothing F p a (inr b) = let e : verdict.Unknown ≡ verdict.Unsat = sym a ∙ b.0 in cc

fails-nothing : (k c : ℕ) (F : PrenexFormula) (p : Proof) → FailsAt k c F p → ProvesNothing F p
fails-nothing k c F p (inl a) = inl (a.0, a.1)
fails-nothing k c F p (inr a) = inr (a.0, a.1)

-- a trace proves something or nothing, so where it proves nothing none of the others is so
no-proof : (n : ExtractFiles) (d : Disk) {P : PrenexFormula → Proof → Type 0} → ((F : PrenexFormula) (p : Proof) → P F p → ProvesNothing F p → ⊥) → OfFiles n d P → AreNoProof n d → ⊥
no-proof n d apart a (inl x) = x.2 a.proof a.is_trace
no-proof n d apart a (inr b) = apart a.formula a.proof a.holds (both n d a b)

no-proof-formula : (n : ExtractFiles) (d : Disk) → AreNoProof n d → (F : PrenexFormula) × IsFileOf (bytes_at d n.input) F
no-proof-formula n d (inl x) = (x.0, x.1)
no-proof-formula n d (inr b) = (b.formula, b.is_input)

module _ (given : Status) (n : ExtractFiles) (before : Disk) (after : Option Disk) where
  abbrev Result : Type 0
  Result = ExtractsExactly given n before after

  -- a file is untouched, or nothing is left, in other cases
  abbrev NoFormula : Type 0
  NoFormula = IsNoFormula (bytes_at before n.input)

  settled : IsUntouched status.True → ⊥
  settled (inl a) = cc
  settled (inr (inl a)) = cc
  settled (inr (inr (inl a))) = cc
  settled (inr (inr (inr a))) = cc

  settled-false : IsUntouched status.False → ⊥
  settled-false (inl a) = cc
  settled-false (inr (inl a)) = cc
  settled-false (inr (inr (inl a))) = cc
  settled-false (inr (inr (inr a))) = cc

  true-left : {X : Type 0} → given ≡ status.True → (given ≡ status.WriteFault) ⊎ (given ≡ status.NoMemory) → X
  true-left e (inl a) = absurd (let w : status.True ≡ status.WriteFault = sym e ∙ a in cc)
  true-left e (inr a) = absurd (let w : status.True ≡ status.NoMemory = sym e ∙ a in cc)

  false-left : {X : Type 0} → given ≡ status.False → (given ≡ status.WriteFault) ⊎ (given ≡ status.NoMemory) → X
  false-left e (inl a) = absurd (let w : status.False ≡ status.WriteFault = sym e ∙ a in cc)
  false-left e (inr a) = absurd (let w : status.False ≡ status.NoMemory = sym e ∙ a in cc)

  proved : (g : ℕ) → IsTrue g n before after → given ≡ status.True → Result
  proved g h e =
      let a : AreTrue n before = of n before h h.holds.0 in
      record {
        proved = due given status.True (AreTrue n before) e a;
        refuted = not-due given status.True status.False (AreFalse n before) e (λ x. cc) (λ q. true-false a.formula a.proof a.holds (both n before a q));
        unknown = not-due given status.True status.Unknown (AreUnknown n before) e (λ x. cc) (λ q. true-unknown a.formula a.proof a.holds (both n before a q));
        refused = not-due given status.True status.LogRefused (AreNoProof n before) e (λ x. cc) (no-proof n before true-nothing a);
        input_refused = not-due given status.True status.InputRefused NoFormula e (λ x. cc) (λ z. z h.formula h.is_input);
        skolem = λ x F f. shown F f;
        herbrand = λ x. absurd (let w : status.True ≡ status.False = sym e ∙ x in cc);
        untouched = λ x. absurd (settled (subst IsUntouched e x));
        left = true-left e;
      }
    where
      shown : (F : PrenexFormula) → IsFileOf (bytes_at before n.input) F → Holds F × Leaves (AreSkolem F) n before after
      shown F f =
          let same : h.formula ≡ F = one_formula (bytes_at before n.input) h.formula F h.is_input f in
          let w = h.holds.1 in
          subst (λ (G : PrenexFormula). Holds G × Leaves (AreSkolem G) n before after) same
          (from_skolem h.formula (trees_of w.0) (file-formula (bytes_at before n.input) h.formula h.is_input) w.1.1, (g, w.0, w.1, w.2))

  refuted : (g : ℕ) → IsFalse g n before after → given ≡ status.False → Result
  refuted g h e =
      let a : AreFalse n before = of n before h h.holds.0 in
      record {
        proved = not-due given status.False status.True (AreTrue n before) e (λ x. cc) (λ q. true-false a.formula a.proof (both n before a q) a.holds);
        refuted = due given status.False (AreFalse n before) e a;
        unknown = not-due given status.False status.Unknown (AreUnknown n before) e (λ x. cc) (λ q. false-unknown a.formula a.proof a.holds (both n before a q));
        refused = not-due given status.False status.LogRefused (AreNoProof n before) e (λ x. cc) (no-proof n before false-nothing a);
        input_refused = not-due given status.False status.InputRefused NoFormula e (λ x. cc) (λ z. z h.formula h.is_input);
        skolem = λ x. absurd (let w : status.False ≡ status.True = sym e ∙ x in cc);
        herbrand = λ x F f. shown F f;
        untouched = λ x. absurd (settled-false (subst IsUntouched e x));
        left = false-left e;
      }
    where
      shown : (F : PrenexFormula) → IsFileOf (bytes_at before n.input) F → (¬ Holds F) × Leaves (AreHerbrand F) n before after
      shown F f =
          let same : h.formula ≡ F = one_formula (bytes_at before n.input) h.formula F h.is_input f in
          let w = h.holds.1 in
          subst (λ (G : PrenexFormula). (¬ Holds G) × Leaves (AreHerbrand G) n before after) same
          (herbrand-false h.formula (trees_of w.0) (file-formula (bytes_at before n.input) h.formula h.is_input) w.1.1, (g, w.0, w.1, w.2))

  -- where no file changed
  quiet : (s : Status) → given ≡ s → (s ≡ status.True → ⊥) → (s ≡ status.False → ⊥) → after ≡ Some before
      → Exactly given status.True (AreTrue n before) → Exactly given status.False (AreFalse n before) → Exactly given status.Unknown (AreUnknown n before)
      → Exactly given status.LogRefused (AreNoProof n before) → Exactly given status.InputRefused NoFormula → Result
  quiet s e t f same p r u w i = record {
    proved = p;
    refuted = r;
    unknown = u;
    refused = w;
    input_refused = i;
    skolem = λ x. absurd (t (sym e ∙ x));
    herbrand = λ x. absurd (f (sym e ∙ x));
    untouched = λ x. same;
    left = λ x. inl same;
  }

  unknown : AreUnknown n before → after ≡ Some before → given ≡ status.Unknown → Result
  unknown a same e =
      quiet status.Unknown e (λ x. cc) (λ x. cc) same
      (not-due given status.Unknown status.True (AreTrue n before) e (λ x. cc) (λ q. true-unknown a.formula a.proof (both n before a q) a.holds))
      (not-due given status.Unknown status.False (AreFalse n before) e (λ x. cc) (λ q. false-unknown a.formula a.proof (both n before a q) a.holds))
      (due given status.Unknown (AreUnknown n before) e a)
      (not-due given status.Unknown status.LogRefused (AreNoProof n before) e (λ x. cc) (no-proof n before unknown-nothing a))
      (not-due given status.Unknown status.InputRefused NoFormula e (λ x. cc) (λ z. z a.formula a.is_input))

  refused : AreNoProof n before → after ≡ Some before → given ≡ status.LogRefused → Result
  refused h same e =
      quiet status.LogRefused e (λ x. cc) (λ x. cc) same
      (not-due given status.LogRefused status.True (AreTrue n before) e (λ x. cc) (λ q. no-proof n before true-nothing q h))
      (not-due given status.LogRefused status.False (AreFalse n before) e (λ x. cc) (λ q. no-proof n before false-nothing q h))
      (not-due given status.LogRefused status.Unknown (AreUnknown n before) e (λ x. cc) (λ q. no-proof n before unknown-nothing q h))
      (due given status.LogRefused (AreNoProof n before) e h)
      (not-due given status.LogRefused status.InputRefused NoFormula e (λ x. cc) (λ z. let f = no-proof-formula n before h in z f.0 f.1))

  no-formula : NoFormula → after ≡ Some before → given ≡ status.InputRefused → Result
  no-formula h same e =
      quiet status.InputRefused e (λ x. cc) (λ x. cc) same
      (not-due given status.InputRefused status.True (AreTrue n before) e (λ x. cc) (λ q. h q.formula q.is_input))
      (not-due given status.InputRefused status.False (AreFalse n before) e (λ x. cc) (λ q. h q.formula q.is_input))
      (not-due given status.InputRefused status.Unknown (AreUnknown n before) e (λ x. cc) (λ q. h q.formula q.is_input))
      (not-due given status.InputRefused status.LogRefused (AreNoProof n before) e (λ x. cc) (λ q. let f = no-proof-formula n before q in h f.0 f.1))
      (due given status.InputRefused NoFormula e h)

  fault : MayCome given → (given ≡ status.ReadFault → after ≡ Some before) → ((given ≡ status.WriteFault) ⊎ (given ≡ status.NoMemory) → (after ≡ Some before) ⊎ IsPart n before after) → Result
  fault m same l = record {
    proved = faulty given status.True (AreTrue n before) m (λ x. elim x [ inl a ↦ cc | inr b ↦ elim b [ inl a ↦ cc | inr a ↦ cc ] ]);
    refuted = faulty given status.False (AreFalse n before) m (λ x. elim x [ inl a ↦ cc | inr b ↦ elim b [ inl a ↦ cc | inr a ↦ cc ] ]);
    unknown = faulty given status.Unknown (AreUnknown n before) m (λ x. elim x [ inl a ↦ cc | inr b ↦ elim b [ inl a ↦ cc | inr a ↦ cc ] ]);
    refused = faulty given status.LogRefused (AreNoProof n before) m (λ x. elim x [ inl a ↦ cc | inr b ↦ elim b [ inl a ↦ cc | inr a ↦ cc ] ]);
    input_refused = faulty given status.InputRefused NoFormula m (λ x. elim x [ inl a ↦ cc | inr b ↦ elim b [ inl a ↦ cc | inr a ↦ cc ] ]);
    skolem = λ x. absurd (come (λ y. elim y [ inl a ↦ cc | inr b ↦ elim b [ inl a ↦ cc | inr a ↦ cc ] ]) x);
    herbrand = λ x. absurd (come (λ y. elim y [ inl a ↦ cc | inr b ↦ elim b [ inl a ↦ cc | inr a ↦ cc ] ]) x);
    untouched = unchanged;
    left = l;
  }
    where
      come : {t : Status} → (MayCome t → ⊥) → given ≡ t → ⊥
      come d x = d (subst MayCome x m)

      unchanged : IsUntouched given → after ≡ Some before
      unchanged (inl a) = absurd (come (λ y. elim y [ inl a ↦ cc | inr b ↦ elim b [ inl a ↦ cc | inr a ↦ cc ] ]) a)
      unchanged (inr (inl a)) = absurd (come (λ y. elim y [ inl a ↦ cc | inr b ↦ elim b [ inl a ↦ cc | inr a ↦ cc ] ]) a)
      unchanged (inr (inr (inl a))) = absurd (come (λ y. elim y [ inl a ↦ cc | inr b ↦ elim b [ inl a ↦ cc | inr a ↦ cc ] ]) a)
      unchanged (inr (inr (inr a))) = same a

  -- what a file holds whole it holds to the front of its whole length
  front : (g : ℕ) (made : CertificateView) → HoldsCircuits made g n.cert before after → MayHoldCircuits made n.cert before after
  front g made (text, canonical, whole) = (
    g,
    text,
    canonical,
    record {
      disk = whole.disk;
      told = whole.told;
      bytes = inr (length text, ap (λ b. unwrap_or b []) whole.bytes ∙ sym (take-length text));
      others = whole.others;
    },
  )

  -- what stands where the line could not be put
  stands : (o : Extracted) → Extracts o n before after → (after ≡ Some before) ⊎ IsPart n before after
  stands (outcome.True g) h = let w = h.holds.1 in inr (of n before h (claim.True, h.holds.0, (w.0, w.1, front g w.0 w.2)))
  stands (outcome.False g) h = let w = h.holds.1 in inr (of n before h (claim.False, h.holds.0, (w.0, w.1, front g w.0 w.2)))
  stands outcome.Unknown h = inl h.1
  stands (outcome.RefusedTrace k c) h = inl h.1
  stands (outcome.RefusedInput k c) h = inl h.1
  stands outcome.ReadFault h = inl h
  stands outcome.WriteFault h = inr h
  stands outcome.NoMemory h = h

  due-answers : (o : Extracted) → Extracts o n before after → given ≡ status_of_extracted o → Result
  due-answers (outcome.True g) h e = proved g h e
  due-answers (outcome.False g) h e = refuted g h e
  due-answers outcome.Unknown h e = unknown h.0 h.1 e
  due-answers (outcome.RefusedTrace k c) (inl x, same) e = refused (inl (x.0, x.1, λ p t. no-trace (bytes_at before n.trace) p k c x.2 t)) same e
  due-answers (outcome.RefusedTrace k c) (inr x, same) e = refused (inr (of n before x (fails-nothing k c x.formula x.proof x.holds))) same e
  due-answers (outcome.RefusedInput k c) h e = no-formula (λ F f. no_offence (bytes_at before n.input) F k c h.0 f) h.1 e
  due-answers outcome.ReadFault h e = fault (inl e) (λ x. h) (λ x. inl h)
  due-answers outcome.WriteFault h e = fault (inr (inl e)) (λ x. let w : status.WriteFault ≡ status.ReadFault = sym e ∙ x in cc) (λ x. inr h)
  due-answers outcome.NoMemory h e = fault (inr (inr e)) (λ x. let w : status.NoMemory ≡ status.ReadFault = sym e ∙ x in cc) (λ x. h)

-- what the status is, where an outcome was due
pub extract-answers : (given : Status) (n : ExtractFiles) (before : Disk) (after : Option Disk) (o : Extracted) (old new : SinkView) → Extracts o n before after → IsDue (status_of_extracted o) given old new → ExtractsExactly given n before after
extract-answers given n before after o old new h (inl e) = due-answers given n before after o h e
extract-answers given n before after o old new h (inr (inl e)) =
    fault given n before after (inr (inl e.0)) (λ x. let w : status.WriteFault ≡ status.ReadFault = sym e.0 ∙ x in cc) (λ x. stands given n before after o h)
extract-answers given n before after o old new h (inr (inr e)) =
    fault given n before after (inr (inr e.0)) (λ x. let w : status.NoMemory ≡ status.ReadFault = sym e.0 ∙ x in cc) (λ x. stands given n before after o h)

-- the words were understood
pub extract-usage : (o : Extracted) → status_of_extracted o ≢ status.Usage
extract-usage (outcome.True g) e = cc
extract-usage (outcome.False g) e = cc
extract-usage outcome.Unknown e = cc
extract-usage (outcome.RefusedTrace k c) e = cc
extract-usage (outcome.RefusedInput k c) e = cc
extract-usage outcome.ReadFault e = cc
extract-usage outcome.WriteFault e = cc
extract-usage outcome.NoMemory e = cc

pub laws : (n : ExtractFiles) → ToldLaws (told n)
laws n = record {
  gives = λ o given disk after old new h d. extract-answers given n disk after o old new h d;
  no_usage = extract-usage;
  answers = λ given disk after m g. (exact given status.True _ m g.proved, exact given status.False _ m g.refuted, exact given status.Unknown _ m g.unknown);
}
