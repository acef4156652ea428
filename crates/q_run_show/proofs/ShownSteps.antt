-- A step that is shown or made, and what is said of one that is not.
use Rattle.std.proofs.Common.{◌≡◌, ◌≤◌, ◌<◌, ◌+◌, ◌^◌, ◌∙◌, refl, sym, ap, subst, arith, ℕ, Bool, true, false, [], ◌++◌, length, append-nil, slice_get, Some, None, Result, Ok, Err, IfOk}
use Rattle.q_logic.specs.declared.limits.Limits.{Limits}
use Rattle.q_logic.specs.declared.steps.Kind.TheVariants.{Delete}
use Rattle.q_logic.specs.Prelude.{PrenexFormula, NumberedFormula, ProofPart, ProofStep, HintedValid, add, delete, drop_literal, fresh, remove_variable, kind_of, begun, plain, hinted_after, after, standard, AreAlike, slot}
use Rattle.q_logic.proofs.Common.{alike_swapped}
use Rattle.q_judge.specs.declared.error.CheckError.{CheckError}
use Rattle.q_judge.specs.declared.error.CheckError.TheVariants as check
use Rattle.q_same_steps.specs.HintedMaking.{HintedApplies}
use Rattle.q_shares.specs.Shares.{judged}
use Rattle.q_shares.proofs.HintedSharedRuns.{hinted_valid-applies}
use Rattle.q_hinted.specs.Parts.{AreGroups, IsPartOf}
use Rattle.q_hinted.specs.Texts.{hinted_text}
use Rattle.q_refutation.specs.Refutations.{IsLost}
use Rattle.q_refutation.specs.SharedRefutations.{MayBeTaken}
use Rattle.q_refutation.proofs.FirstEmpty.{alike_lost, bad-pass, bad-step}
use Rattle.q_shown.specs.HintedRefutations.{HintedMayBeMade}
use Rattle.q_shown.proofs.HintedFront.{hinted-may_pass, hinted-may_step}
use Rattle.q_shown.proofs.HintedRefuting.{hinted-may}
use Rattle.q_check.proofs.FirstNumbers.{length-numbered_matrix}
use Rattle.q_check.specs.Annotations.{Annotating, implied_part}
use Rattle.q_check.specs.Checked.{IsRefusal}
use Rattle.q_check.specs.Replays.{IsNumberedStep, IsUnfitFor}
use Rattle.q_command.specs.Refusals.{step_refused}
use Rattle.q_command.specs.declared.outcome.Outcome.{Outcome}
use Rattle.q_command.specs.declared.outcome.Outcome.TheVariants as outcome
use Rattle.q_run_annotate.specs.AnnotatedShares.{line_if}
use Rattle.q_run_annotate.specs.Readings.{IsUnderWay as Annotates}
use Rattle.q_run_annotate.proofs.WritableProofs.{fits-front, numbers-fit}
use Rattle.q_run_disprove.specs.HintedReadings.{BringsEmpty}
use Rattle.q_run_disprove.specs.Readings.{IsBadFor, counted}
use Rattle.q_run_disprove.proofs.TakenSteps.{own-fewer}
use Rattle.q_run_show.specs.ShownShares.{HintedMayBeTaken}
use Rattle.q_run_show.specs.Readings.{AreNamed, Convicts, IsUnderWay, Takes, turn}
use Rattle.q_run_show.specs.declared.scribe.Scribe.{Scribe}
use Rattle.q_run_show.proofs.LentLemmas.{applied-after, brought, hinted-applies, not-brought, still-under-way}
use Rattle.q_run_show.proofs.NamedSteps.{after-named}

-- a step that may be made can be made
may-applies : (N : NumberedFormula) (s : ProofStep) (t : ProofPart) → HintedMayBeMade standard N s t → HintedApplies standard N s t
may-applies N (add p C) t h = hinted_valid-applies standard N (add p C) t h
may-applies N (delete p C) t h = h
may-applies N (drop_literal l C) t h = hinted_valid-applies standard N (drop_literal l C) t h
may-applies N (fresh v w) t h = hinted_valid-applies standard N (fresh v w) t h
may-applies N (remove_variable v) t h = hinted_valid-applies standard N (remove_variable v) t h

pub taken-applies : (own : Bool) (N : NumberedFormula) (s : ProofStep) (t : ProofPart) → HintedMayBeTaken own N s t → HintedApplies standard N s t
taken-applies true N s t h = may-applies N s t h
taken-applies false N s t h = h

-- without its proof part it may be taken too, and leaves the same, up to the order of clauses
pub taken-plain : (own : Bool) (N : NumberedFormula) (s : ProofStep) (t : ProofPart) → HintedMayBeTaken own N s t → MayBeTaken own standard (plain N) s
taken-plain true N s t h = hinted-may standard N s t h
taken-plain false N s t h = hinted-applies standard N s t h

pub taken-leaves : (own : Bool) (N : NumberedFormula) (s : ProofStep) (t : ProofPart) → HintedMayBeTaken own N s t → AreAlike (after (plain N) s) (plain (hinted_after N s t))
taken-leaves own N s t h = applied-after standard N s t (taken-applies own N s t h)

-- the empty clause comes by it, or does not
pub taken-lost : (own : Bool) (N M : NumberedFormula) (s : ProofStep) (t : ProofPart) → HintedMayBeTaken own N s t → M ≡ hinted_after N s t → BringsEmpty s → IsLost (plain M)
taken-lost own N M s t h e b =
    subst (λ (G : NumberedFormula). IsLost (plain G)) (sym e)
    (alike_lost (after (plain N) s) (plain (hinted_after N s t)) (taken-leaves own N s t h) (brought (plain N) s b))

pub taken-unlost : (own : Bool) (N M : NumberedFormula) (s : ProofStep) (t : ProofPart) → HintedMayBeTaken own N s t → M ≡ hinted_after N s t → (IsLost (plain N) → ⊥) →
    (BringsEmpty s → ⊥) → IsLost (plain M) → ⊥
taken-unlost own N M s t h e u n l =
    not-brought (plain N) s n u (alike_lost (plain (hinted_after N s t)) (after (plain N) s)
    (alike_swapped (after (plain N) s) (plain (hinted_after N s t)) (taken-leaves own N s t h))
    (subst (λ (G : NumberedFormula). IsLost (plain G)) e l))

-- a deletion that names its clause
pub deletion-may : (l : Limits) (N : NumberedFormula) (s : ProofStep) (t : ProofPart) → l ≡ standard → kind_of s ≡ Delete → HintedApplies l N s t → HintedMayBeMade standard N s t
deletion-may l N s t e k a = hinted-may_pass standard N s t k (subst (λ (m : Limits). HintedApplies m N s t) e a)

named-groups : (t : ProofPart) → t ≡ implied_part t.number [] → AreGroups t.kind t.groups
named-groups t e = subst (λ (x : ProofPart). AreGroups x.kind x.groups) (sym e) (refl, tt)

pub deletion-fits : (l : Limits) (N : NumberedFormula) (s : ProofStep) (t : ProofPart) → kind_of s ≡ Delete → HintedApplies l N s t → t ≡ implied_part t.number [] →
    slot N.slots 0 ≡ None → length N.slots < 2 ^ 62 → IsPartOf (kind_of s) t
deletion-fits l N (add p C) t k a e z n = cc
deletion-fits l N (delete p C) t k a e z n = (numbers-fit N.slots z n t.number C a.1, named-groups t e)
deletion-fits l N (drop_literal x C) t k a e z n = cc
deletion-fits l N (fresh v w) t k a e z n = cc
deletion-fits l N (remove_variable v) t k a e z n = cc

pub deletion-bad : (l : Limits) (F : PrenexFormula) (s : ProofStep) → l ≡ standard → kind_of s ≡ Delete → (e : CheckError) → IsUnfitFor l F s e → IsBadFor F s e
deletion-bad l F s q k (check.Refused n) u = bad-pass standard F s n k (subst (λ (m : Limits). IsUnfitFor m F s (check.Refused n)) q u)
deletion-bad l F s q k check.NoMemory u = tt

-- any other step
pub step-may : (l : Limits) (N : NumberedFormula) (s : ProofStep) (t : ProofPart) → l ≡ standard → (kind_of s ≡ Delete → ⊥) → HintedValid l N s t → HintedMayBeMade standard N s t
step-may l N s t e k v = hinted-may_step standard N s t k (subst (λ (m : Limits). HintedValid m N s t) e v)

pub step-bad : (l : Limits) (F : PrenexFormula) (s : ProofStep) → l ≡ standard → (kind_of s ≡ Delete → ⊥) → (e : CheckError) → IsRefusal l F s e → IsBadFor F s e
step-bad l F s q k (check.Refused n) u = bad-step standard F s n k (subst (λ (m : Limits). IsRefusal m F s (check.Refused n)) q u)
step-bad l F s q k check.NoMemory u = tt

-- there is room for the numbers of all clauses
pub front-free : (a : Annotating) → Annotates a → slot a.formula.slots 0 ≡ None
front-free a u = fits-front a.formula.slots u.no_clause

-- before the first step
pub sets-out : (F : PrenexFormula) (a : Annotating) → a ≡ record { formula = begun F; limits = standard; steps = 0 } → length F.matrix ≤ 2 ^ 60 → Annotates a
sets-out F a e n = record {
  limits = ap (λ (x : Annotating). x.limits) e;
  no_clause = subst (λ (x : Annotating). slice_get x.formula.slots 0 ≡ Some None) (sym e) refl;
  few = subst (λ (x : Annotating). length x.formula.slots ≤ 2 ^ 60 + x.steps + 1) (sym e) (let m = length-numbered_matrix F.matrix in omega (arith, m, n));
}

-- two facts of what was answered
pub both-ok : {T E : Type 0} {P Q R : T → Type 0} (r : Result T E) → IfOk r P → IfOk r Q → ((t : T) → P t → Q t → R t) → IfOk r R
both-ok (Ok t) p q f = f t p q
both-ok (Err e) p q f = tt

-- a step is taken
module _ (s : ProofStep) (t : ProofPart) (old new : Scribe) (u : IsUnderWay old) where
  pub takes : judged (turn old) (IsPartOf (kind_of s) t) (Unit {0}) → HintedMayBeTaken (turn old) old.annotator.formula s t → new.annotator.formula ≡ hinted_after old.annotator.formula s t →
      new.annotator.limits ≡ old.annotator.limits → new.annotator.steps ≡ old.annotator.steps + 1 → new.part ≡ old.part →
      new.text.items ≡ old.text.items ++ line_if (turn old) s t → new.written ≡ counted (turn old) old.written → Takes s old new
  takes fits may e m n p x z =
      let applies : HintedApplies standard old.annotator.formula s t = taken-applies (turn old) old.annotator.formula s t may in
      let fewer : counted (turn old) old.written ≤ old.annotator.steps + 1 = own-fewer (turn old) old.written old.annotator.steps u.fewer in
      record {
        proof = t;
        fits = fits;
        may = may;
        formula = e;
        annotator = still-under-way s t old.annotator new.annotator u.annotator applies e m n;
        named = subst (λ (N : NumberedFormula). AreNamed N.prefix) (sym e) (after-named old.annotator.formula s t applies u.named);
        fewer = omega (arith, fewer, z, n);
        steps = n;
        part = p;
        text = x;
        written = z;
      }

  pub takes-own : turn old ≡ true → IsPartOf (kind_of s) t → HintedMayBeMade standard old.annotator.formula s t → new.annotator.formula ≡ hinted_after old.annotator.formula s t →
      new.annotator.limits ≡ old.annotator.limits → new.annotator.steps ≡ old.annotator.steps + 1 → new.part ≡ old.part →
      new.text.items ≡ old.text.items ++ hinted_text s t → new.written ≡ old.written + 1 → Takes s old new
  takes-own own fits may e m n p x z =
      takes (subst (λ (b : Bool). judged b (IsPartOf (kind_of s) t) (Unit {0})) (sym own) fits)
      (subst (λ (b : Bool). HintedMayBeTaken b old.annotator.formula s t) (sym own) may) e m n p
      (x ∙ ap (λ (b : Bool). old.text.items ++ line_if b s t) (sym own)) (z ∙ ap (λ (b : Bool). counted b old.written) (sym own))

-- a step of another part
pub takes-other : (s : ProofStep) (old new : Scribe) → IsUnderWay old → turn old ≡ false → IsNumberedStep old.annotator.limits old.annotator.formula s new.annotator.formula →
    new.annotator.limits ≡ old.annotator.limits → new.annotator.steps ≡ old.annotator.steps + 1 → new.part ≡ old.part →
    new.text.items ≡ old.text.items → new.written ≡ old.written → Takes s old new
takes-other s old new u other v m n p x z =
    let t : ProofPart = v.proof in
    let applies : HintedApplies standard old.annotator.formula s t = subst (λ (k : Limits). HintedApplies k old.annotator.formula s t) u.annotator.limits v.fits in
    takes s t old new u (subst (λ (b : Bool). judged b (IsPartOf (kind_of s) t) (Unit {0})) (sym other) tt)
    (subst (λ (b : Bool). HintedMayBeTaken b old.annotator.formula s t) (sym other) applies) v.after m n p
    (x ∙ (sym (append-nil old.text.items) ∙ ap (λ (b : Bool). old.text.items ++ line_if b s t) (sym other))) (z ∙ ap (λ (b : Bool). counted b old.written) (sym other))

-- a step of the part that may not be made, and one of another part that can't be made
pub convicted : (b : Bool) → b ≡ true → (w : Outcome) (E : PrenexFormula) (n : ℕ) (s : ProofStep) (e : CheckError) → w ≡ step_refused n e → IsBadFor E s e → Convicts b w E (n, s)
convicted b own w E n s (check.Refused c) q h =
    subst (λ (o : Outcome). Convicts b o E (n, s)) (sym q) (subst (λ (x : Bool). Convicts x (outcome.RefusedLine n c) E (n, s)) (sym own) (refl, h))
convicted b own w E n s check.NoMemory q h = subst (λ (o : Outcome). Convicts b o E (n, s)) (sym q) tt

pub unfit : (b : Bool) → b ≡ false → (w : Outcome) (m : Limits) (E : PrenexFormula) (n : ℕ) (s : ProofStep) (e : CheckError) → w ≡ step_refused n e → m ≡ standard → IsUnfitFor m E s e → Convicts b w E (n, s)
unfit b other w m E n s (check.Refused c) q l h =
    subst (λ (o : Outcome). Convicts b o E (n, s)) (sym q)
    (subst (λ (x : Bool). Convicts x (outcome.RefusedLine n c) E (n, s)) (sym other) (refl, subst (λ (x : Limits). IsUnfitFor x E s (check.Refused c)) l h))
unfit b other w m E n s check.NoMemory q l h = subst (λ (o : Outcome). Convicts b o E (n, s)) (sym q) tt
