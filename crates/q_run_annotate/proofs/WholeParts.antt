-- The part that is the whole log: what is said of it is what `annotate` says.
use Rattle.std.proofs.Common.{◌≡◌, ◌∙◌, inl, inr, refl, sym, ap, subst, ℕ, ◌+◌, Bool, cond, List, [], ◌∷◌, ◌++◌, Option}
use Rattle.std.specs.List.{AllByRecursion}
use Rattle.q_logic.specs.Prelude.{PrenexFormula, Hinted, ProofStep, kind_of, standard, Valid, Cause, after, ValidSteps}
use Rattle.q_same_steps.specs.Making.{Applies, Unfit}
use Rattle.q_shares.specs.Shares.{Share, judged}
use Rattle.q_io.specs.Files.{Disk, bytes_at}
use Rattle.q_log.specs.declared.error.LogError.{LogError}
use Rattle.q_log.specs.Logs as logs
use Rattle.q_hinted.specs.Parts.{IsPartOf}
use Rattle.q_hinted.specs.Texts.{header_text, hinted_text, lines_text}
use Rattle.q_command.specs.Logs.{Entry, steps_of, IsFirstBad}
use Rattle.q_command.specs.Parts.{IsFirstBadShared, IsWhole as IsWholeShare}
use Rattle.q_command.specs.declared.outcome.Outcome.{Outcome}
use Rattle.q_command.specs.declared.outcome.Outcome.TheVariants as outcome
use Rattle.q_command.specs.declared.outcome.Role.TheVariants.{In, Out}
use Rattle.q_command.proofs.LogEntries.{steps_of-length}
use Rattle.q_command.proofs.SharedSteps.{whole-valid, whole-count}
use Rattle.q_command.proofs.SharedHints.{whole-hinted-run}
use Rattle.q_run_annotate.specs.Annotates.{AnnotateFiles, Annotates, ChecksBy, EndsPlain, IsAnnotation, IsHintedLog, IsPartBy, PlainChecks}
use Rattle.q_run_annotate.specs.AnnotatedShares.{AreWritable, IsShareAnnotation, IsShareText, header_in, line_if, lines_in}
use Rattle.q_run_annotate.specs.AnnotatedParts.{AnnotatesShared, EndsShared, LogRefusesShared}
use Rattle.q_run_annotate.specs.declared.annotated.Annotated.{Annotated}
use Rattle.q_run_annotate.specs.declared.annotated.Annotated.TheVariants.{Written, Unverified, WriteFault, NoMemory}

module _ (j : Share) (w : IsWholeShare j) where
  whole-lines : (k : ℕ) (hs : List Hinted) → lines_in j k hs ≡ lines_text hs
  whole-lines k [] = refl
  whole-lines k (h ∷ hs) =
      ap (λ (b : Bool). line_if b h.step h.proof ++ lines_in j (k + 1) hs) (w k) ∙ ap (λ (t : List ℕ). hinted_text h.step h.proof ++ t) (whole-lines (k + 1) hs)

  whole-writable : (k : ℕ) (hs : List Hinted) → AreWritable j k hs → AllByRecursion (λ h. IsPartOf (kind_of h.step) h.proof) hs
  whole-writable k [] a = tt
  whole-writable k (h ∷ hs) a =
      (subst (λ (b : Bool). judged b (IsPartOf (kind_of h.step) h.proof) (Unit {0})) (w k) a.0, whole-writable (k + 1) hs a.1)

  whole-header : header_in j ≡ header_text
  whole-header = ap (λ (b : Bool). line-of b) (w 0)
    where
      line-of : Bool → List ℕ
      line-of b = cond b header_text []

  whole-text : (F G : PrenexFormula) (ss : List ProofStep) (text : List ℕ) → IsShareText j F G ss text → IsHintedLog F G ss text
  whole-text F G ss text t = record {
    hinted = t.hinted;
    run = whole-hinted-run j F G t.hinted w t.run;
    steps = t.steps;
    parts = whole-writable 0 t.hinted t.parts;
    text_is = t.text_is ∙ (ap (λ (front : List ℕ). front ++ lines_in j 0 t.hinted) whole-header ∙ ap (λ (lines : List ℕ). header_text ++ lines) (whole-lines 0 t.hinted));
  }

  whole-annotation : (log : List ℕ) (k : ℕ) (F G : PrenexFormula) (text : List ℕ) → IsShareAnnotation j log k F G text → IsAnnotation log k F G text
  whole-annotation log k F G text a = record {
    entries = a.entries;
    is_log = a.is_log;
    count = a.counted ∙ (whole-count j 0 (steps_of a.entries) w ∙ steps_of-length a.entries);
    hinted = whole-text F G (steps_of a.entries) text a.hinted;
  }

  whole-bad : (k : ℕ) (F : PrenexFormula) (es : List Entry) (r : Option LogError) (n c : ℕ) → IsFirstBadShared j k F es r n c → IsFirstBad F es r n c
  whole-bad k F [] r n c h = h
  whole-bad k F (e ∷ es) r n c (inl (l, x)) = inl (l, subst (λ (b : Bool). judged b (Cause standard F e.1 c) (Unfit standard F e.1 c)) (w k) x)
  whole-bad k F (e ∷ es) r n c (inr (v, x)) =
      inr (subst (λ (b : Bool). judged b (Valid standard F e.1) (Applies standard F e.1)) (w k) v, whole-bad (k + 1) (after F e.1) es r n c x)

  whole-ends : (log : List ℕ) (F G : PrenexFormula) (c : ℕ) → EndsShared j log F G c → EndsPlain log F G c
  whole-ends log F G c e = record {
    last = e.last;
    way = record {
      entries = e.way.entries;
      is_log = e.way.is_log;
      steps = subst (λ (L : PrenexFormula). ValidSteps standard F (steps_of e.way.entries) L) (sym e.way.last_is) (whole-valid j standard 0 F (steps_of e.way.entries) w e.way.steps);
    };
    apart = e.apart;
  }

  whole-checks : (o : Outcome) (i u l : List ℕ) → ChecksBy (λ x F G. LogRefusesShared j x F G l) o i u → PlainChecks o i u l
  whole-checks (outcome.Verified n) i u l h = h
  whole-checks (outcome.RefusedLine n c) i u l h = record {
    from = h.from;
    to = h.to;
    is_input = h.is_input;
    is_output = h.is_output;
    holds = whole-bad 0 h.from (logs.read standard.bytes l).steps (logs.read standard.bytes l).refused n c h.holds;
  }
  whole-checks (outcome.RefusedEnd c) i u l h = record { from = h.from; to = h.to; is_input = h.is_input; is_output = h.is_output; holds = whole-ends l h.from h.to c h.holds }
  whole-checks (outcome.RefusedInput In n c) i u l h = h
  whole-checks (outcome.RefusedInput Out n c) i u l h = h
  whole-checks outcome.ReadFault i u l h = tt
  whole-checks outcome.NoMemory i u l h = tt

  whole-part : (n : AnnotateFiles) (before : Disk) (after : Option Disk) → IsPartBy (IsShareAnnotation j (bytes_at before n.log)) n before after → IsPartBy (IsAnnotation (bytes_at before n.log)) n before after
  whole-part n before after p =
      let h = p.holds in
      record {
        from = p.from;
        to = p.to;
        is_input = p.is_input;
        is_output = p.is_output;
        holds = (h.0, h.1, whole-annotation (bytes_at before n.log) h.0 p.from p.to h.1 h.2, h.3);
      }

  pub whole-annotates : (o : Annotated) (n : AnnotateFiles) (before : Disk) (after : Option Disk) → AnnotatesShared j o n before after → Annotates o n before after
  whole-annotates (Written k) n before after p =
      let h = p.holds in
      record {
        from = p.from;
        to = p.to;
        is_input = p.is_input;
        is_output = p.is_output;
        holds = (h.0, whole-annotation (bytes_at before n.log) k p.from p.to h.0 h.1, h.2);
      }
  whole-annotates (Unverified o) n before after p = (p.0, whole-checks o (bytes_at before n.input) (bytes_at before n.output) (bytes_at before n.log) p.1, p.2)
  whole-annotates WriteFault n before after p = whole-part n before after p
  whole-annotates NoMemory n before after (inl e) = inl e
  whole-annotates NoMemory n before after (inr p) = inr (whole-part n before after p)
