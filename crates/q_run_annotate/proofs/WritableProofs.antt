-- A proof part that shows a step, and has nothing beside, is one that a log can hold.
use Rattle.std.proofs.Common.{◌≡◌, ◌≤◌, ◌<◌, ◌^◌, ℕ, zero, suc, Bool, true, false, cond, List, [], ◌∷◌, ◌++◌, append-nil, map, inl, inr, refl, sym, ap, ◌∙◌, subst, Option, None, Some, length, slice_get, ◌+◌, arith, suc-le-suc, zero-le}
use Rattle.std.specs.List.{AllByRecursion}
use Rattle.q_logic.specs.declared.limits.Limits.{Limits}
use Rattle.q_logic.specs.declared.proof_part.ProofKind.{ProofKind}
use Rattle.q_logic.specs.Prelude.{Literal, negation, Clause, Prefix, IsIn, Follows, Chained, NumberedFormula, HintGroup, ProofPart, Resolved, Shows, ShowsDrop, HintedValid, hinted_after, numbers_with, Slots, slot, set_slot, without, negations, kind_of, ProofStep, add, delete, drop_literal, fresh, remove_variable, standard}
use Rattle.q_logic.proofs.Common.{length-set_slot, slot-below}
use Rattle.q_hinted.specs.Parts.{IsNumber, IsGroup, AreGroups, IsPartOf}
use Rattle.q_check.specs.Annotations.{Annotating, HasForm}
use Rattle.q_hinted.specs.Texts.{hinted_text}
use Rattle.q_same_steps.specs.HintedMaking.{HintedApplies}
use Rattle.q_shares.specs.Shares.{judged}
use Rattle.q_shares.proofs.HintedSharedRuns.{hinted_valid-applies}
use Rattle.q_check.specs.Replays.{IsNumberedStep}
use Rattle.q_run_annotate.specs.AnnotatedShares.{line_if}
use Rattle.q_run_annotate.specs.Readings.{Fits, IsUnderWay, Goes, turn}
use Rattle.q_run_annotate.specs.declared.scribe.Scribe.{Scribe}
use Rattle.q_check.proofs.AscendingNumbers.{with-in}
use Rattle.q_check.proofs.HintNumbers.{slot-emptied}

-- each clause of the formula has a number that a log can hold
AreNumbers : Slots → Type 0
AreNumbers N = (n : ℕ) (D : Clause) → slot N n ≡ Some D → IsNumber n

pub numbers-fit : (N : Slots) → slot N 0 ≡ None → length N < 2 ^ 62 → (n : ℕ) (D : Clause) → slot N n ≡ Some D → IsNumber n
numbers-fit N z l zero D e = let q : None ≡ Some D = sym z ∙ e in cc
numbers-fit N z l (suc n) D e = let w = slot-below N (suc n) D e in (suc-le-suc zero-le, (omega arith))

module _ (N : Slots) (f : (n : ℕ) (D : Clause) → slot N n ≡ Some D → IsNumber n) where
  follows-numbers : (K : List Literal) (hs : List ℕ) → Follows N K hs → AllByRecursion IsNumber hs
  follows-numbers K [] x = tt
  follows-numbers K (h ∷ hs) (D, e, inl (last, r)) = (f h D e, subst (AllByRecursion IsNumber) (sym last) tt)
  follows-numbers K (h ∷ hs) (D, e, inr (k, one, x)) = (f h D e, follows-numbers (k ∷ K) hs x)

  chained-numbers : (C : Clause) (hs : List ℕ) → Chained N C hs → AllByRecursion IsNumber hs
  chained-numbers C hs (inl (t, e)) = subst (AllByRecursion IsNumber) (sym e) tt
  chained-numbers C hs (inr (n, x)) = follows-numbers (negations C) hs x

  target-in : (gs : List HintGroup) (g : HintGroup) → IsIn g gs → IsIn g.target (map (λ (x : HintGroup). x.target) gs)
  target-in [] g m = elim m [ ]
  target-in (x ∷ gs) g (inl e) = inl (ap (λ (y : HintGroup). y.target) e)
  target-in (x ∷ gs) g (inr m) = inr (target-in gs g m)

  all-groups : (gs : List HintGroup) → ((g : HintGroup) → IsIn g gs → IsGroup g) → AllByRecursion IsGroup gs
  all-groups [] h = tt
  all-groups (g ∷ gs) h = (h g (inl refl), all-groups gs (λ x m. h x (inr m)))

  resolved-groups : (P : Prefix) (base : Clause) (m : Literal) (gs : List HintGroup) → Resolved P N base m gs → AllByRecursion IsGroup gs
  resolved-groups P base m gs r = all-groups gs (λ g i.
      let t : IsIn g.target (numbers_with m 0 N) = subst (λ (xs : List ℕ). IsIn g.target xs) r.targets (target-in gs g i) in
      let w = with-in m 0 N g.target t in
      let e : slot N g.target ≡ Some w.1 = subst (λ (k : ℕ). slot N k ≡ Some w.1) (let q = w.2 in omega arith) w.3 in
      (f g.target w.1 e, chained-numbers _ g.hints (r.each g i w.1 e)))

  pub shown-groups : (P : Prefix) (C : Clause) (p : Option Literal) (t : ProofPart) → Shows P N C p t → AreGroups t.kind t.groups
  shown-groups P C p t (inl (k, (hints, e, ch))) = rw (k, e) (refl, chained-numbers C hints ch)
  shown-groups P C p t (inr (k, (l, e, q, i, r))) = rw k (resolved-groups P C (negation l) t.groups r)

  pub drop-groups : (P : Prefix) (C : Clause) (l : Literal) (t : ProofPart) → ShowsDrop P N C l t → (t.kind ≡ Rattle.q_logic.specs.declared.proof_part.ProofKind.TheVariants.Reach → t.groups ≡ []) → AreGroups t.kind t.groups
  drop-groups P C l t (inl (k, (q, i, n, r))) e = rw k (resolved-groups P (without l C) (negation l) t.groups r)
  drop-groups P C l t (inr (k, r)) e = rw k (e k)

pub part-fits : (m : Limits) (F : NumberedFormula) (s : ProofStep) (t : ProofPart) → HintedValid m F s t → HasForm s t → slot F.slots 0 ≡ None → length F.slots < 2 ^ 62 → IsPartOf (kind_of s) t
part-fits m F (add p C) t v f z l = (f, shown-groups F.slots (numbers-fit F.slots z l) F.prefix C p t v.1)
part-fits m F (delete p C) t v f z l = (
  numbers-fit F.slots z l t.number C v.1,
  shown-groups (set_slot t.number None F.slots) (λ n D e. numbers-fit F.slots z l n D (slot-emptied F.slots t.number n D e).1) F.prefix C p t v.2,
)
part-fits m F (drop_literal q C) t v f z l = (
  numbers-fit F.slots z l t.number C v.1,
  drop-groups (set_slot t.number None F.slots) (λ n D e. numbers-fit F.slots z l n D (slot-emptied F.slots t.number n D e).1) F.prefix C q t v.2 f,
)
part-fits m F (fresh v w) t h f z l = f
part-fits m F (remove_variable v) t h f z l = f

length-more : (N : Slots) (o : Option Clause) → length (N ++ o ∷ []) ≡ suc (length N)
length-more [] o = refl
length-more (x ∷ N) o = ap suc (length-more N o)

pub after-length : (F : NumberedFormula) (s : ProofStep) (t : ProofPart) → length (hinted_after F s t).slots ≤ length F.slots + 1
after-length F (add p C) t = let e = length-more F.slots (Some C) in omega (arith, e)
after-length F (delete p C) t = let e = length-set_slot t.number None F.slots in omega (arith, e)
after-length F (drop_literal l C) t = let e = length-set_slot t.number (Some (without l C)) F.slots in omega (arith, e)
after-length F (fresh v w) t = omega arith
after-length F (remove_variable v) t = omega arith

front-slot : (N : Slots) → slice_get N 0 ≡ Some None → slot N 0 ≡ None
front-slot [] e = cc
front-slot (x ∷ N) e = cc

pub fits-front : (N : Slots) → slice_get N 0 ≡ Some None → slot N 0 ≡ None
fits-front = front-slot

front-more : (N : Slots) (o : Option Clause) → slice_get N 0 ≡ Some None → slice_get (N ++ o ∷ []) 0 ≡ Some None
front-more [] o e = cc
front-more (x ∷ N) o e = e

front-emptied : (n : ℕ) (N : Slots) → slice_get N 0 ≡ Some None → slice_get (set_slot n None N) 0 ≡ Some None
front-emptied n [] e = cc
front-emptied zero (x ∷ N) e = refl
front-emptied (suc n) (x ∷ N) e = e

front-set : (n : ℕ) (o : Option Clause) (C : Clause) (N : Slots) → slice_get N 0 ≡ Some None → slot N n ≡ Some C → slice_get (set_slot n o N) 0 ≡ Some None
front-set n o C [] e h = cc
front-set zero o C (x ∷ N) e h = cc
front-set (suc n) o C (x ∷ N) e h = e

after-front : (m : Limits) (F : NumberedFormula) (s : ProofStep) (t : ProofPart) → HintedApplies m F s t → slice_get F.slots 0 ≡ Some None → slice_get (hinted_after F s t).slots 0 ≡ Some None
after-front m F (add p C) t v e = front-more F.slots (Some C) e
after-front m F (delete p C) t v e = front-emptied t.number F.slots e
after-front m F (drop_literal l C) t v e = front-set t.number (Some (without l C)) C F.slots e v.1
after-front m F (fresh v w) t h e = e
after-front m F (remove_variable v) t h e = e

-- the annotator goes on
still-under-way : (s : ProofStep) (t : ProofPart) (a b : Annotating) → IsUnderWay a → HintedApplies standard a.formula s t → b.formula ≡ hinted_after a.formula s t → b.limits ≡ a.limits → b.steps ≡ a.steps + 1 → IsUnderWay b
still-under-way s t a b u w e m n =
    let p = after-length a.formula s t in
    let r : length b.formula.slots ≡ length (hinted_after a.formula s t).slots = ap (λ (F : NumberedFormula). length F.slots) e in
    let q = u.few in
    record {
      limits = m ∙ u.limits;
      no_clause = subst (λ (F : NumberedFormula). slice_get F.slots 0 ≡ Some None) (sym e) (after-front standard a.formula s t w u.no_clause);
      few = omega (arith, p, r, q, n);
    }

-- a step that is shown
pub goes : (s : ProofStep) (t : ProofPart) (old new : Scribe) → turn old ≡ true → IsUnderWay old.annotator → old.annotator.steps < 2 ^ 60 → HintedValid old.annotator.limits old.annotator.formula s t → HasForm s t →
    new.annotator.formula ≡ hinted_after old.annotator.formula s t → new.annotator.limits ≡ old.annotator.limits → new.annotator.steps ≡ old.annotator.steps + 1 →
    new.part ≡ old.part → new.text.items ≡ old.text.items ++ hinted_text s t → new.written ≡ old.written + 1 → Goes s old new
goes s t old new own u l v f e m n p x z =
    let a : Annotating = old.annotator in
    let w : HintedValid standard a.formula s t = subst (λ (k : Limits). HintedValid k a.formula s t) u.limits v in
    record {
      proof = t;
      fits = subst (λ (b : Bool). judged b (IsPartOf (kind_of s) t) (Unit {0})) (sym own)
          (part-fits standard a.formula s t w f (fits-front a.formula.slots u.no_clause) (let q = u.few in omega arith));
      made = subst (λ (b : Bool). Fits b a s t) (sym own) w;
      formula = e;
      under_way = still-under-way s t a new.annotator u (hinted_valid-applies standard a.formula s t w) e m n;
      steps = n;
      part = p;
      text = x ∙ ap (λ (b : Bool). old.text.items ++ line_if b s t) (sym own);
      written = z ∙ ap (λ (b : Bool). cond b (old.written + 1) old.written) (sym own);
    }

-- a step that is made
pub passes : (s : ProofStep) (old new : Scribe) → turn old ≡ false → IsUnderWay old.annotator → IsNumberedStep old.annotator.limits old.annotator.formula s new.annotator.formula →
    new.annotator.limits ≡ old.annotator.limits → new.annotator.steps ≡ old.annotator.steps + 1 →
    new.part ≡ old.part → new.text.items ≡ old.text.items → new.written ≡ old.written → Goes s old new
passes s old new other u v m n p x z =
    let a : Annotating = old.annotator in
    let w : HintedApplies standard a.formula s v.proof = subst (λ (k : Limits). HintedApplies k a.formula s v.proof) u.limits v.fits in
    record {
      proof = v.proof;
      fits = subst (λ (b : Bool). judged b (IsPartOf (kind_of s) v.proof) (Unit {0})) (sym other) tt;
      made = subst (λ (b : Bool). Fits b a s v.proof) (sym other) w;
      formula = v.after;
      under_way = still-under-way s v.proof a new.annotator u w v.after m n;
      steps = n;
      part = p;
      text = x ∙ (sym (append-nil old.text.items) ∙ ap (λ (b : Bool). old.text.items ++ line_if b s v.proof) (sym other));
      written = z ∙ ap (λ (b : Bool). cond b (old.written + 1) old.written) (sym other);
    }
