-- One more step of a share of a hinted log, and its end.
use Rattle.std.proofs.Common.{◌≡◌, ◌≤◌, ◌+◌, ◌^◌, ℕ, suc, Bool, true, false, cond, List, [], ◌∷◌, ◌++◌, refl, sym, ap, ◌∙◌, subst, None, Some, length, length-append, slice_get, append-nil, append_assoc, arith}
use Rattle.q_check.proofs.FirstNumbers.{length-numbered_matrix}
use Rattle.q_logic.specs.declared.limits.Limits.{Limits}
use Rattle.q_logic.specs.Prelude.{PrenexFormula, NumberedFormula, Hinted, HintedValid, ProofPart, begun, plain, hinted_after, strip, standard, SameFormula, Run, AreAlike, kind_of, ProofStep, Valid, after, without, live, set_slot, one_less, others}
use Rattle.q_logic.specs.Steps.{add, delete, drop_literal, fresh, remove_variable}
use Rattle.q_logic.proofs.Common.{alike_itself}
use Rattle.q_logic.proofs.JustifiedRuns.{alike-refl, alike-sym, alike-trans, alike-cons}
use Rattle.q_logic.proofs.NumberedClauses.{live-slot, live-gone}
use Rattle.q_logic.proofs.HintedRuns.{hinted-run, hinted-valid, live-added, live-changed, left-alike}
use Rattle.q_same_steps.specs.Making.{Applies}
use Rattle.q_same_steps.specs.HintedMaking.{HintedApplies, hinted_made}
use Rattle.q_shares.specs.Shares.{Share, count, judged}
use Rattle.q_shares.proofs.HintedSharedRuns.{hinted_valid-applies}
use Rattle.q_hinted.specs.Parts.{IsPartOf}
use Rattle.q_check.specs.Annotations.{Annotating}
use Rattle.q_command.specs.Judging.{LeadsMade}
use Rattle.q_command.specs.Logs.{Entry, steps_of}
use Rattle.q_command.specs.Parts.{share_of}
use Rattle.q_command.specs.declared.part.Part.{Part}
use Rattle.q_command.proofs.LogEntries.{steps_of-append, steps_of-length}
use Rattle.q_command.proofs.BothCheckers.{plain-begun}
use Rattle.q_command.proofs.SharedHints.{are-hinted-more, hinted-made-more}
use Rattle.q_command.proofs.SharedSteps.{count-more, made_begin, made_more}
use Rattle.q_run_annotate.specs.Annotates.{IsHintedLog}
use Rattle.q_run_annotate.specs.AnnotatedShares.{AreWritable, IsShareText, header_in, line_if, lines_in}
use Rattle.q_run_annotate.specs.Readings.{Fits, IsBegun, IsSoFar, IsUnderWay, Goes, turn}
use Rattle.q_run_annotate.specs.declared.scribe.Scribe.{Scribe}

strip-push : (hs : List Hinted) (h : Hinted) → strip (hs ++ h ∷ []) ≡ strip hs ++ h.step ∷ []
strip-push [] h = refl
strip-push (x ∷ hs) h = ap (λ (ss : List ProofStep). x.step ∷ ss) (strip-push hs h)

lines-push : (j : Share) (k : ℕ) (hs : List Hinted) (h : Hinted) → lines_in j k (hs ++ h ∷ []) ≡ lines_in j k hs ++ line_if (j (k + length hs)) h.step h.proof
lines-push j k [] h =
    let z : k ≡ k + 0 = omega arith in
    append-nil (line_if (j k) h.step h.proof) ∙ ap (λ (n : ℕ). line_if (j n) h.step h.proof) z
lines-push j k (x ∷ hs) h =
    let z : (k + 1) + length hs ≡ k + suc (length hs) = omega arith in
    let first : List ℕ = line_if (j k) x.step x.proof in
    ap (λ (t : List ℕ). first ++ t) (lines-push j (k + 1) hs h ∙ ap (λ (n : ℕ). lines_in j (k + 1) hs ++ line_if (j n) h.step h.proof) z)
    ∙ sym (append_assoc first (lines_in j (k + 1) hs) (line_if (j (k + suc (length hs))) h.step h.proof))

writable-push : (j : Share) (k : ℕ) (hs : List Hinted) (h : Hinted) → AreWritable j k hs → judged (j (k + length hs)) (IsPartOf (kind_of h.step) h.proof) (Unit {0}) → AreWritable j k (hs ++ h ∷ [])
writable-push j k [] h a p =
    let z : k + 0 ≡ k = omega arith in
    (subst (λ (n : ℕ). judged (j n) (IsPartOf (kind_of h.step) h.proof) (Unit {0})) z p, tt)
writable-push j k (x ∷ hs) h a p =
    let z : k + suc (length hs) ≡ (k + 1) + length hs = omega arith in
    (a.0, writable-push j (k + 1) hs h a.1 (subst (λ (n : ℕ). judged (j n) (IsPartOf (kind_of h.step) h.proof) (Unit {0})) z p))

-- a step that can be made on numbered clauses can be made on the clauses
hinted-applies : (m : Limits) (F : NumberedFormula) (s : ProofStep) (t : ProofPart) → HintedApplies m F s t → Applies m (plain F) s
hinted-applies m F (add p C) t v = v
hinted-applies m F (delete p C) t v = (v.0, live-slot F.slots t.number C v.1)
hinted-applies m F (drop_literal l C) t v = (v.0, live-slot F.slots t.number C v.1)
hinted-applies m F (fresh v w) t h = h.0
hinted-applies m F (remove_variable v) t h = (h.0, h.1)

-- with the same result
applied-after : (m : Limits) (F : NumberedFormula) (s : ProofStep) (t : ProofPart) → HintedApplies m F s t → AreAlike (after (plain F) s) (plain (hinted_after F s t))
applied-after m F (add p C) t v = record { prefix = refl; clauses = live-added F.slots C }
applied-after m F (delete p C) t v = record { prefix = refl; clauses = left-alike F.slots t.number C v.1 }
applied-after m F (drop_literal l C) t v = record {
  prefix = refl;
  clauses =
      alike-trans (without l C ∷ one_less C (live F.slots)) (without l C ∷ others t.number F.slots) (live (set_slot t.number (Some (without l C)) F.slots))
      (alike-cons (without l C) (one_less C (live F.slots)) (others t.number F.slots) (rw live-gone at (left-alike F.slots t.number C v.1)))
      (alike-sym (live (set_slot t.number (Some (without l C)) F.slots)) (without l C ∷ others t.number F.slots) (live-changed F.slots t.number C (without l C) v.1));
}
applied-after m F (fresh v w) t h = record { prefix = refl; clauses = alike-refl (live F.slots) }
applied-after m F (remove_variable v) t h = record { prefix = refl; clauses = alike-refl (live F.slots) }

module _ (a : Annotating) (s : ProofStep) (t : ProofPart) where
  fits-applies : (b : Bool) → Fits b a s t → HintedApplies standard a.formula s t
  fits-applies true v = hinted_valid-applies standard a.formula s t v
  fits-applies false v = v

  fits-plain : (b : Bool) → Fits b a s t → judged b (Valid standard (plain a.formula) s) (Applies standard (plain a.formula) s)
  fits-plain true v = hinted-valid standard a.formula s t v
  fits-plain false v = hinted-applies standard a.formula s t v

module _ (F : PrenexFormula) (es : List Entry) (n : ℕ) (s : ProofStep) (old new : Scribe) (f : IsSoFar (share_of old.part) F es old) (g : Goes s old new) where
  more : steps_of (es ++ (n, s) ∷ []) ≡ steps_of es ++ s ∷ []
  more = steps_of-append es ((n, s) ∷ [])

  abbrev h : Hinted
  h = record { step = s; proof = g.proof }

  -- the place of the step
  at-hinted : old.annotator.steps ≡ 0 + length f.hinted
  at-hinted = omega (arith, f.many)

  at-steps : old.annotator.steps ≡ length (steps_of es)
  at-steps = f.all ∙ sym (steps_of-length es)

  at-all : old.annotator.steps ≡ 0 + length (steps_of es)
  at-all = omega (arith, at-steps)

  still-made : LeadsMade (share_of old.part) F (steps_of (es ++ (n, s) ∷ [])) (plain new.annotator.formula)
  still-made =
      let a : Annotating = old.annotator in
      let alike : AreAlike (after (plain a.formula) s) (plain new.annotator.formula) =
      subst (λ (N : NumberedFormula). AreAlike (after (plain a.formula) s) (plain N)) (sym g.formula) (applied-after standard a.formula s g.proof (fits-applies a s g.proof (turn old) g.made)) in
      let right = subst (λ (k : ℕ). judged (share_of old.part k) (Valid standard (plain a.formula) s) (Applies standard (plain a.formula) s)) at-steps (fits-plain a s g.proof (turn old) g.made) in
      subst (λ (ss : List ProofStep). LeadsMade (share_of old.part) F ss (plain new.annotator.formula)) (sym more)
      (made_more (share_of old.part) F (steps_of es) (plain a.formula) (plain new.annotator.formula) s f.leads right alike)

  still-counted : new.written ≡ count (share_of old.part) 0 (steps_of (es ++ (n, s) ∷ []))
  still-counted =
      let j : Share = share_of old.part in
      let c : ℕ = count j 0 (steps_of es) in
      g.written ∙ (ap (λ (k : ℕ). cond (turn old) (k + 1) k) f.counted
      ∙ (ap (λ (k : ℕ). cond (j k) (c + 1) c) at-all ∙ (sym (count-more j 0 (steps_of es) s) ∙ ap (λ (ss : List ProofStep). count j 0 ss) (sym more))))

  still-written : new.text.items ≡ header_in (share_of old.part) ++ lines_in (share_of old.part) 0 (f.hinted ++ h ∷ [])
  still-written =
      let j : Share = share_of old.part in
      let front : List ℕ = header_in j in
      g.text ∙ (ap (λ (t : List ℕ). t ++ line_if (turn old) s g.proof) f.text_is
      ∙ (append_assoc front (lines_in j 0 f.hinted) (line_if (turn old) s g.proof)
      ∙ ap (λ (t : List ℕ). front ++ t) (ap (λ (k : ℕ). lines_in j 0 f.hinted ++ line_if (j k) s g.proof) at-hinted ∙ sym (lines-push j 0 f.hinted h))))

  still-shown : IsSoFar (share_of old.part) F (es ++ (n, s) ∷ []) new
  still-shown =
      let j : Share = share_of old.part in
      let E : NumberedFormula = hinted_made (begun F) f.hinted in
      let shown = subst (λ (N : NumberedFormula). judged (turn old) (HintedValid standard N s g.proof) (HintedApplies standard N s g.proof)) f.last g.made in
      record {
        hinted = f.hinted ++ h ∷ [];
        made = are-hinted-more j standard 0 (begun F) f.hinted h f.made
            (subst (λ (k : ℕ). judged (j k) (HintedValid standard E s g.proof) (HintedApplies standard E s g.proof)) at-hinted shown);
        last = g.formula ∙ (ap (λ (N : NumberedFormula). hinted_after N s g.proof) f.last ∙ sym (hinted-made-more (begun F) f.hinted h));
        leads = still-made;
        steps = strip-push f.hinted h ∙ (ap (λ (xs : List ProofStep). xs ++ s ∷ []) f.steps ∙ sym more);
        all = omega (arith, g.steps, f.all, length-append es ((n, s) ∷ []));
        many = omega (arith, g.steps, f.many, length-append f.hinted (h ∷ []));
        counted = still-counted;
        parts = writable-push j 0 f.hinted h f.parts (subst (λ (k : ℕ). judged (j k) (IsPartOf (kind_of s) g.proof) (Unit {0})) at-hinted g.fits);
        text_is = still-written;
      }

  pub goes-on : IsSoFar (share_of new.part) F (es ++ (n, s) ∷ []) new
  goes-on = subst (λ (p : Part). IsSoFar (share_of p) F (es ++ (n, s) ∷ []) new) (sym g.part) still-shown

pub ends-hinted : (j : Share) (F G : PrenexFormula) (es : List Entry) (s : Scribe) (text : List ℕ) → IsSoFar j F es s → SameFormula (plain s.annotator.formula) G → text ≡ s.text.items → IsShareText j F G (steps_of es) text
ends-hinted j F G es s text f same t = record {
  hinted = f.hinted;
  run = record { steps = f.made; same = subst (λ (N : NumberedFormula). SameFormula (plain N) G) f.last same };
  steps = f.steps;
  parts = f.parts;
  text_is = t ∙ f.text_is;
}

-- the steps of a hinted log are a run
pub hinted-leads : (F G : PrenexFormula) (ss : List ProofStep) (text : List ℕ) → IsHintedLog F G ss text → Run F ss G
hinted-leads F G ss text h = subst (λ (xs : List ProofStep). Run F xs G) h.steps (hinted-run F G h.hinted h.run)

-- Before the first step.
pub begins : (F : PrenexFormula) (p : Part) (s : Scribe) → IsBegun F p s → IsSoFar (share_of s.part) F [] s
begins F p s b =
    let N : s.annotator.formula ≡ begun F = ap (λ (x : Annotating). x.formula) b.annotator in
    let none : s.annotator.steps ≡ 0 = ap (λ (x : Annotating). x.steps) b.annotator in
    let a : AreAlike F (plain (begun F)) = subst (λ (G : PrenexFormula). AreAlike F G) (sym (plain-begun F)) (alike_itself F) in
    record {
      hinted = [];
      made = tt;
      last = N;
      leads = made_begin (share_of s.part) F (plain s.annotator.formula) (subst (λ (M : NumberedFormula). AreAlike F (plain M)) (sym N) a);
      steps = refl;
      all = none;
      many = none;
      counted = b.written;
      parts = tt;
      text_is = b.text ∙ (ap (λ (q : Part). header_in (share_of q)) (sym b.part) ∙ sym (append-nil (header_in (share_of s.part))));
    }

pub sets-out : (F : PrenexFormula) (p : Part) (s : Scribe) → IsBegun F p s → IsUnderWay s.annotator
sets-out F p s b = record {
  limits = ap (λ (x : Annotating). x.limits) b.annotator;
  no_clause = subst (λ (x : Annotating). slice_get x.formula.slots 0 ≡ Some None) (sym b.annotator) refl;
  few = subst (λ (x : Annotating). length x.formula.slots ≤ 2 ^ 60 + x.steps + 1) (sym b.annotator) (let n = length-numbered_matrix F.matrix in omega (arith, n, b.few));
}
