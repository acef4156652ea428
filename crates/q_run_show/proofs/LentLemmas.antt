-- What q_run_annotate and q_run_disprove prove of the text, the steps and the header, of types that they keep to themselves.
use Rattle.std.proofs.Common.{◌≡◌, ◌+◌, ◌∙◌, refl, sym, ap, subst, arith, ℕ, zero, suc, Bool, cond, List, [], ◌∷◌, ◌++◌, length, append_assoc, append-nil, slice_get, Option, Some, None, inl, inr}
use Rattle.q_logic.specs.declared.limits.Limits.{Limits}
use Rattle.q_logic.specs.Prelude.{PrenexFormula, Clause, NumberedFormula, Hinted, ProofPart, plain, hinted_after, standard, AreAlike, kind_of, ProofStep, strip, after, without, live, set_slot, one_less, others, Slots, slot}
use Rattle.q_logic.specs.Steps.{add, delete, drop_literal, fresh, remove_variable}
use Rattle.q_logic.proofs.JustifiedRuns.{alike-refl, alike-sym, alike-trans, alike-cons}
use Rattle.q_logic.proofs.NumberedClauses.{live-slot, live-gone}
use Rattle.q_logic.proofs.HintedRuns.{live-added, live-changed, left-alike}
use Rattle.q_logic.proofs.Runs.{one_less-IsIn}
use Rattle.q_same_steps.specs.Making.{Applies}
use Rattle.q_same_steps.specs.HintedMaking.{HintedApplies}
use Rattle.q_shares.specs.Shares.{Share, judged}
use Rattle.q_refutation.specs.Refutations.{IsLost}
use Rattle.q_hinted.specs.Parts.{IsPartOf}
use Rattle.q_check.specs.Annotations.{Annotating}
use Rattle.std.specs.List.{AllByRecursion}
use Rattle.q_log.specs.Texts.{IsLogged}
use Rattle.q_hinted.specs.Texts.{IsWritten, header_text, hinted_text, lines_text, on_lines}
use Rattle.q_command.specs.Logs.{hinted_of}
use Rattle.q_command.specs.Parts.{IsWhole}
use Rattle.q_run_annotate.specs.AnnotatedShares.{AreWritable, header_in, line_if, lines_in}
use Rattle.q_run_annotate.specs.Readings.{IsUnderWay}
use Rattle.q_run_annotate.proofs.WritableProofs.{after-length}
use Rattle.q_run_disprove.specs.HintedReadings.{BringsEmpty}

pub lines-push : (j : Share) (k : ℕ) (hs : List Hinted) (h : Hinted) → lines_in j k (hs ++ h ∷ []) ≡ lines_in j k hs ++ line_if (j (k + length hs)) h.step h.proof
lines-push j k [] h =
    let z : k ≡ k + 0 = omega arith in
    append-nil (line_if (j k) h.step h.proof) ∙ ap (λ (n : ℕ). line_if (j n) h.step h.proof) z
lines-push j k (x ∷ hs) h =
    let z : (k + 1) + length hs ≡ k + suc (length hs) = omega arith in
    let first : List ℕ = line_if (j k) x.step x.proof in
    ap (λ (t : List ℕ). first ++ t) (lines-push j (k + 1) hs h ∙ ap (λ (n : ℕ). lines_in j (k + 1) hs ++ line_if (j n) h.step h.proof) z)
    ∙ sym (append_assoc first (lines_in j (k + 1) hs) (line_if (j (k + suc (length hs))) h.step h.proof))

pub writable-push : (j : Share) (k : ℕ) (hs : List Hinted) (h : Hinted) → AreWritable j k hs → judged (j (k + length hs)) (IsPartOf (kind_of h.step) h.proof) (Unit {0}) → AreWritable j k (hs ++ h ∷ [])
writable-push j k [] h a p =
    let z : k + 0 ≡ k = omega arith in
    (subst (λ (n : ℕ). judged (j n) (IsPartOf (kind_of h.step) h.proof) (Unit {0})) z p, tt)
writable-push j k (x ∷ hs) h a p =
    let z : k + suc (length hs) ≡ (k + 1) + length hs = omega arith in
    (a.0, writable-push j (k + 1) hs h a.1 (subst (λ (n : ℕ). judged (j n) (IsPartOf (kind_of h.step) h.proof) (Unit {0})) z p))

pub hinted-applies : (m : Limits) (F : NumberedFormula) (s : ProofStep) (t : ProofPart) → HintedApplies m F s t → Applies m (plain F) s
hinted-applies m F (add p C) t v = v
hinted-applies m F (delete p C) t v = (v.0, live-slot F.slots t.number C v.1)
hinted-applies m F (drop_literal l C) t v = (v.0, live-slot F.slots t.number C v.1)
hinted-applies m F (fresh v w) t h = h.0
hinted-applies m F (remove_variable v) t h = (h.0, h.1)

pub applied-after : (m : Limits) (F : NumberedFormula) (s : ProofStep) (t : ProofPart) → HintedApplies m F s t → AreAlike (after (plain F) s) (plain (hinted_after F s t))
applied-after m F (add p C) t v = record { prefix = refl; clauses = live-added F.slots C }
applied-after m F (delete p C) t v = record { prefix = refl; clauses = left-alike F.slots t.number C v.1 }
applied-after m F (drop_literal l C) t v = record {
  prefix = refl;
  clauses =
      alike-trans (without l C ∷ one_less C (live F.slots)) (without l C ∷ others t.number F.slots) (live (set_slot t.number (Some (without l C)) F.slots))
      (alike-cons (without l C) (one_less C (live F.slots)) (others t.number F.slots) (rw live-gone at (left-alike F.slots t.number C v.1)))
      (alike-sym (live (set_slot t.number (Some (without l C)) F.slots)) (without l C ∷ others t.number F.slots) (live-changed F.slots t.number C (without l C) v.1));
}
applied-after m F (fresh v w) t h = record { prefix = refl; clauses = alike-refl (live F.slots) }
applied-after m F (remove_variable v) t h = record { prefix = refl; clauses = alike-refl (live F.slots) }

front-more : (N : Slots) (o : Option Clause) → slice_get N 0 ≡ Some None → slice_get (N ++ o ∷ []) 0 ≡ Some None
front-more [] o e = cc
front-more (x ∷ N) o e = e

front-emptied : (n : ℕ) (N : Slots) → slice_get N 0 ≡ Some None → slice_get (set_slot n None N) 0 ≡ Some None
front-emptied n [] e = cc
front-emptied zero (x ∷ N) e = refl
front-emptied (suc n) (x ∷ N) e = e

front-set : (n : ℕ) (o : Option Clause) (C : Clause) (N : Slots) → slice_get N 0 ≡ Some None → slot N n ≡ Some C → slice_get (set_slot n o N) 0 ≡ Some None
front-set n o C [] e h = cc
front-set zero o C (x ∷ N) e h = cc
front-set (suc n) o C (x ∷ N) e h = e

after-front : (m : Limits) (F : NumberedFormula) (s : ProofStep) (t : ProofPart) → HintedApplies m F s t → slice_get F.slots 0 ≡ Some None → slice_get (hinted_after F s t).slots 0 ≡ Some None
after-front m F (add p C) t v e = front-more F.slots (Some C) e
after-front m F (delete p C) t v e = front-emptied t.number F.slots e
after-front m F (drop_literal l C) t v e = front-set t.number (Some (without l C)) C F.slots e v.1
after-front m F (fresh v w) t h e = e
after-front m F (remove_variable v) t h e = e

pub still-under-way : (s : ProofStep) (t : ProofPart) (a b : Annotating) → IsUnderWay a → HintedApplies standard a.formula s t → b.formula ≡ hinted_after a.formula s t → b.limits ≡ a.limits → b.steps ≡ a.steps + 1 → IsUnderWay b
still-under-way s t a b u w e m n =
    let p = after-length a.formula s t in
    let r : length b.formula.slots ≡ length (hinted_after a.formula s t).slots = ap (λ (F : NumberedFormula). length F.slots) e in
    let q = u.few in
    record {
      limits = m ∙ u.limits;
      no_clause = subst (λ (F : NumberedFormula). slice_get F.slots 0 ≡ Some None) (sym e) (after-front standard a.formula s t w u.no_clause);
      few = omega (arith, p, r, q, n);
    }

pub brought : (F : PrenexFormula) (s : ProofStep) → BringsEmpty s → IsLost (after F s)
brought F (add p C) e = inl (sym e)
brought F (delete p C) e = absurd e
brought F (drop_literal l C) e = inl (sym e)
brought F (fresh v w) e = absurd e
brought F (remove_variable v) e = absurd e

pub not-brought : (F : PrenexFormula) (s : ProofStep) → (BringsEmpty s → ⊥) → (IsLost F → ⊥) → IsLost (after F s) → ⊥
not-brought F (add p C) n u (inl e) = n (sym e)
not-brought F (add p C) n u (inr l) = u l
not-brought F (delete p C) n u l = u (one_less-IsIn C F.matrix [] l)
not-brought F (drop_literal l C) n u (inl e) = n (sym e)
not-brought F (drop_literal l C) n u (inr i) = u (one_less-IsIn C F.matrix [] i)
not-brought F (fresh v w) n u l = u l
not-brought F (remove_variable v) n u l = u l

pub length-strip : (hs : List Hinted) → length (strip hs) ≡ length hs
length-strip [] = refl
length-strip (h ∷ hs) = ap suc (length-strip hs)

pub written : (hs : List Hinted) → AllByRecursion IsLogged (strip hs) → AllByRecursion (λ h. IsPartOf (kind_of h.step) h.proof) hs → AllByRecursion IsWritten hs
written [] a p = tt
written (h ∷ hs) a p = (record { step = a.0; part = p.0 }, written hs a.1 p.1)

pub hinted-on_lines : (n : ℕ) (hs : List Hinted) → hinted_of (on_lines n hs) ≡ hs
hinted-on_lines n [] = refl
hinted-on_lines n (h ∷ hs) = ap (λ (xs : List Hinted). h ∷ xs) (hinted-on_lines (n + 1) hs)

module _ (j : Share) (w : IsWhole j) where
  pub whole-lines : (k : ℕ) (hs : List Hinted) → lines_in j k hs ≡ lines_text hs
  whole-lines k [] = refl
  whole-lines k (h ∷ hs) =
      ap (λ (b : Bool). line_if b h.step h.proof ++ lines_in j (k + 1) hs) (w k) ∙ ap (λ (t : List ℕ). hinted_text h.step h.proof ++ t) (whole-lines (k + 1) hs)

  pub whole-writable : (k : ℕ) (hs : List Hinted) → AreWritable j k hs → AllByRecursion (λ h. IsPartOf (kind_of h.step) h.proof) hs
  whole-writable k [] a = tt
  whole-writable k (h ∷ hs) a =
      (subst (λ (b : Bool). judged b (IsPartOf (kind_of h.step) h.proof) (Unit {0})) (w k) a.0, whole-writable (k + 1) hs a.1)

  pub whole-header : header_in j ≡ header_text
  whole-header = ap (λ (b : Bool). line-of b) (w 0)
    where
      line-of : Bool → List ℕ
      line-of b = cond b header_text []
