-- Steps that are taken from a formula on with their lines, and what the next one or the end tells.
use Rattle.std.proofs.Common.{◌≡◌, ◌+◌, ◌∙◌, refl, sym, ap, subst, arith, ℕ, suc, Bool, true, false, cond, List, [], ◌∷◌, ◌++◌, length, length-append, append_assoc, append-nil, Some, None, inl, inr}
use Rattle.std.specs.List.{AllByRecursion}
use Rattle.q_logic.specs.Prelude.{PrenexFormula, NumberedFormula, Hinted, IsStep, ProofStep, AreAlike, after, begun, hinted_after, kind_of, plain, standard, strip}
use Rattle.q_logic.proofs.Common.{alike_swapped, alike_through, alike_after}
use Rattle.q_log.specs.declared.error.LogError.{LogError}
use Rattle.q_log.specs.Logs.{Parsed, behind, onto, finished, stopped}
use Rattle.q_log.specs.Texts.{IsLogged}
use Rattle.q_hinted.specs.Parts.{IsPartOf}
use Rattle.q_shares.specs.Shares.{Share, count, judged}
use Rattle.q_refutation.specs.Refutations.{IsLost}
use Rattle.q_refutation.specs.SharedRefutations.{AreTakenUnlost, MayBeTaken, NotTaken, RefusedShared, SharedIn}
use Rattle.q_refutation.proofs.FirstEmpty.{alike_lost, alike_may, alike_bad}
use Rattle.q_refutation.proofs.SharedFront.{taken-more, in-behind, refused-front, in-now}
use Rattle.q_shown.proofs.HintedRefuting.{begun-alike}
use Rattle.q_check.specs.Annotations.{Annotating}
use Rattle.q_command.specs.Logs.{Entry, steps_of, IsOffence}
use Rattle.q_command.specs.Parts.{share_of}
use Rattle.q_command.specs.declared.part.Part.{Part}
use Rattle.q_command.specs.declared.outcome.Outcome.{Outcome}
use Rattle.q_command.specs.declared.outcome.Outcome.TheVariants as outcome
use Rattle.q_command.proofs.LogEntries.{steps_of-append, strip-append}
use Rattle.q_command.proofs.SharedSteps.{judged-valid, judged-cause, count-more}
use Rattle.q_run_annotate.specs.AnnotatedShares.{header_in, line_if, lines_in}
use Rattle.q_run_disprove.specs.Disproofs.{IsOnLine}
use Rattle.q_run_disprove.specs.HintedReadings.{BringsEmpty}
use Rattle.q_run_disprove.specs.SharedDisproofs.{ShareEndFails, ShareLeadsNowhere, ShareLineFails}
use Rattle.q_run_disprove.proofs.HintedSteps.{lost-begun}
use Rattle.q_run_show.specs.ShownShares.{AreHintedTaken, HintedMayBeTaken, IsShareText}
use Rattle.q_run_show.specs.Readings.{EndsAt, EndsAtOnce, EndsWith, Finds, Goes, HasWritten, IsBegun, IsSoFar, IsUnderWay, Refuses, SaysEnd, Takes, turn}
use Rattle.q_run_show.specs.declared.ending.Ending.{Ending}
use Rattle.q_run_show.specs.declared.ending.Ending.TheVariants as ending
use Rattle.q_run_show.specs.declared.ending.HintedText.{HintedText}
use Rattle.q_run_show.specs.declared.scribe.Scribe.{Scribe}
use Rattle.q_run_show.proofs.LentLemmas.{length-strip, lines-push, writable-push}
use Rattle.q_run_show.proofs.NamedSteps.{step-logged}
use Rattle.q_run_show.proofs.ShownSteps.{taken-applies, taken-leaves, taken-lost, taken-plain, taken-unlost}

-- one step more
taken-push : (j : Share) (k : ℕ) (N E : NumberedFormula) (hs : List Hinted) (h : Hinted) → AreHintedTaken j k N hs E → (IsLost (plain E) → ⊥) →
    HintedMayBeTaken (j (k + length hs)) E h.step h.proof → AreHintedTaken j k N (hs ++ h ∷ []) (hinted_after E h.step h.proof)
taken-push j k N E [] h e u v =
    let z : k + 0 ≡ k = omega arith in
    let w : HintedMayBeTaken (j k) E h.step h.proof = subst (λ (n : ℕ). HintedMayBeTaken (j n) E h.step h.proof) z v in
    subst (λ (G : NumberedFormula). AreHintedTaken j k G (h ∷ []) (hinted_after E h.step h.proof)) (sym e) (u, w, refl)
taken-push j k N E (x ∷ hs) h (n, w, r) u v =
    let z : k + suc (length hs) ≡ (k + 1) + length hs = omega arith in
    (n, w, taken-push j (k + 1) (hinted_after N x.step x.proof) E hs h r u (subst (λ (i : ℕ). HintedMayBeTaken (j i) E h.step h.proof) z v))

logged-push : (ss : List ProofStep) (s : ProofStep) → AllByRecursion IsLogged ss → IsLogged s → AllByRecursion IsLogged (ss ++ s ∷ [])
logged-push [] s a l = (l, tt)
logged-push (x ∷ ss) s a l = (a.0, logged-push ss s a.1 l)

module _ (j : Share) (F : PrenexFormula) (es : List Entry) (old : Scribe) (f : HasWritten j F es old) (u : IsUnderWay old) where
  module _ (n : ℕ) (s : ProofStep) (new : Scribe) (g : Takes s old new) (l : IsLogged s) where
    abbrev h : Hinted
    h = record { step = s; proof = g.proof }

    at-hinted : old.annotator.steps ≡ 0 + length f.hinted
    at-hinted = omega (arith, f.many)

    turn-is : turn old ≡ j (0 + length f.hinted)
    turn-is = ap (λ (i : Share). i old.annotator.steps) f.share ∙ ap j at-hinted

    steps-more : strip (f.hinted ++ h ∷ []) ≡ steps_of (es ++ (n, s) ∷ [])
    steps-more = strip-append f.hinted (h ∷ []) ∙ (ap (λ (xs : List ProofStep). xs ++ s ∷ []) f.steps ∙ sym (steps_of-append es ((n, s) ∷ [])))

    counted-more : new.written ≡ count j 0 (strip (f.hinted ++ h ∷ []))
    counted-more =
        let ss : List ProofStep = strip f.hinted in
        let z : 0 + length f.hinted ≡ 0 + length ss = omega (arith, length-strip f.hinted) in
        let c : ℕ = count j 0 ss in
        g.written ∙ (ap (λ (k : ℕ). cond (turn old) (k + 1) k) f.counted ∙ (ap (λ (b : Bool). cond b (c + 1) c) (turn-is ∙ ap j z)
        ∙ (sym (count-more j 0 ss s) ∙ ap (count j 0) (sym (strip-append f.hinted (h ∷ []))))))

    text-more : new.text.items ≡ header_in j ++ lines_in j 0 (f.hinted ++ h ∷ [])
    text-more =
        let front : List ℕ = header_in j in
        g.text ∙ (ap (λ (t : List ℕ). t ++ line_if (turn old) s g.proof) f.text_is
        ∙ (append_assoc front (lines_in j 0 f.hinted) (line_if (turn old) s g.proof)
        ∙ ap (λ (t : List ℕ). front ++ t) (ap (λ (b : Bool). lines_in j 0 f.hinted ++ line_if b s g.proof) turn-is ∙ sym (lines-push j 0 f.hinted h))))

    pub written-more : HasWritten j F (es ++ (n, s) ∷ []) new
    written-more = record {
      share = ap share_of g.part ∙ f.share;
      hinted = f.hinted ++ h ∷ [];
      taken = subst (λ (E : NumberedFormula). AreHintedTaken j 0 (begun F) (f.hinted ++ h ∷ []) E) (sym g.formula)
          (taken-push j 0 (begun F) old.annotator.formula f.hinted h f.taken u.unlost
          (subst (λ (b : Bool). HintedMayBeTaken b old.annotator.formula s g.proof) turn-is g.may));
      steps = steps-more;
      many = omega (arith, g.steps, f.many, length-append f.hinted (h ∷ []));
      counted = counted-more;
      logged = subst (λ (ss : List ProofStep). AllByRecursion IsLogged ss) (sym (strip-append f.hinted (h ∷ []))) (logged-push (strip f.hinted) s f.logged l);
      parts = writable-push j 0 f.hinted h f.parts (subst (λ (b : Bool). judged b (IsPartOf (kind_of s) g.proof) (Unit {0})) turn-is g.fits);
      text_is = text-more;
    }

    -- as `disprove` would make it
    alike-behind : AreAlike (after (plain old.annotator.formula) s) (plain new.annotator.formula)
    alike-behind =
        subst (λ (N : NumberedFormula). AreAlike (after (plain old.annotator.formula) s) (plain N)) (sym g.formula)
        (taken-leaves (turn old) old.annotator.formula s g.proof g.may)

    pub lost-behind : IsLost (plain new.annotator.formula) → IsLost (after (plain old.annotator.formula) s)
    lost-behind v =
        alike_lost (plain new.annotator.formula) (after (plain old.annotator.formula) s)
        (alike_swapped (after (plain old.annotator.formula) s) (plain new.annotator.formula) alike-behind) v

logged-now : (s : ProofStep) (old new : Scribe) → IsUnderWay old → (g : Takes s old new) → IsStep s → IsLogged s
logged-now s old new u g i = step-logged old.annotator.formula s g.proof u.named i (taken-applies (turn old) old.annotator.formula s g.proof g.may)

-- the empty clause has come by the step
pub found-ends : (line : ℕ) (s : ProofStep) (old new : Scribe) (x : Ending) → Takes s old new → IsStep s → BringsEmpty s → EndsWith new x → EndsAt x old (line, s)
found-ends line s old new (ending.Shown t) g i b h = record {
  new = new;
  takes = g;
  lawful = i;
  lost = taken-lost (turn old) old.annotator.formula new.annotator.formula s g.proof g.may g.formula b;
  text = h;
}
found-ends line s old new (ending.Refused o) g i b h = absurd h

pub found-no_fault : (s : Scribe) (x : Ending) → EndsWith s x → x ≡ ending.Refused outcome.ReadFault → ⊥
found-no_fault s (ending.Shown t) h e = cc
found-no_fault s (ending.Refused o) h e = h

-- or it has not
pub goes : (s : ProofStep) (old new : Scribe) → IsUnderWay old → Takes s old new → IsStep s → (BringsEmpty s → ⊥) → Goes s old new
goes s old new u g i n = record {
  takes = g;
  lawful = i;
  unlost = taken-unlost (turn old) old.annotator.formula new.annotator.formula s g.proof g.may g.formula u.unlost n;
}

pub goes-under_way : (s : ProofStep) (old new : Scribe) → Goes s old new → IsUnderWay new
goes-under_way s old new g =
    let t = g.takes in
    record { annotator = t.annotator; named = t.named; unlost = g.unlost; fewer = t.fewer }

-- formulas that are alike take the same steps
alike_taken : (own : Bool) (E G : PrenexFormula) (s : ProofStep) → AreAlike E G → MayBeTaken own standard E s → MayBeTaken own standard G s
alike_taken true E G s a h = alike_may standard E G s a h
alike_taken false E G s a h = judged-valid false standard E G s a h

alike_not_taken : (own : Bool) (E G : PrenexFormula) (s : ProofStep) (c : ℕ) → AreAlike E G → NotTaken own standard E s c → NotTaken own standard G s c
alike_not_taken true E G s c a h = alike_bad standard E G s c a h
alike_not_taken false E G s c a h = judged-cause false standard E G s c a h

same-length : (xs : List Entry) → length (steps_of xs) ≡ length xs
same-length [] = refl
same-length (x ∷ xs) = ap suc (same-length xs)

on-line : (xs us : List Entry) (line : ℕ) → IsOnLine us 0 line → IsOnLine (xs ++ us) (length xs) line
on-line [] us line h = h
on-line (x ∷ xs) us line h = on-line xs us line h

one-more : (own : Bool) (c : ℕ) → cond own (c + 1) c ≡ c + cond own (0 + 1) 0
one-more true c = omega arith
one-more false c = omega arith

module _ (j : Share) (F : PrenexFormula) (es : List Entry) (s : Scribe) (f : IsSoFar j F es s) (u : IsUnderWay s) where
  abbrev E : PrenexFormula
  E = plain s.annotator.formula

  -- the number of the next step
  abbrev at : ℕ
  at = 0 + length (steps_of es)

  unlost : IsLost f.last → ⊥
  unlost l = u.unlost (alike_lost f.last E f.alike l)

  back : AreAlike E f.last
  back = alike_swapped f.last E f.alike

  next : s.annotator.steps ≡ at
  next =
      let w = f.written in
      let n : length (strip w.hinted) ≡ length (steps_of es) = ap length w.steps in
      omega (arith, w.many, n, length-strip w.hinted)

  turn-at : turn s ≡ j at
  turn-at = (let w = f.written in ap (λ (i : Share). i s.annotator.steps) w.share ∙ ap j next)

  own-at : s.written ≡ count j 0 (steps_of es)
  own-at = (let w = f.written in w.counted ∙ ap (count j 0) w.steps)

  taken : (x : ProofStep) → MayBeTaken (turn s) standard E x → MayBeTaken (j at) standard f.last x
  taken x h = subst (λ (own : Bool). MayBeTaken own standard f.last x) turn-at (alike_taken (turn s) E f.last x back h)

  pub goes-on : (n : ℕ) (x : ProofStep) (new : Scribe) → Goes x s new → IsSoFar j F (es ++ (n, x) ∷ []) new
  goes-on n x new g =
      let t = g.takes in
      let l : IsLogged x = logged-now x s new u t g.lawful in
      let may : MayBeTaken (turn s) standard E x = taken-plain (turn s) s.annotator.formula x t.proof t.may in
      record {
        written = written-more j F es s f.written u n x new t l;
        last = after f.last x;
        made = subst (λ (ss : List ProofStep). AreTakenUnlost j standard 0 F ss (after f.last x)) (sym (steps_of-append es ((n, x) ∷ [])))
            (taken-more j standard 0 F f.last (steps_of es) x f.made unlost (taken x may));
        alike = alike_through (after f.last x) (after E x) (plain new.annotator.formula) (alike_after f.last E x f.alike)
            (alike-behind j F es s f.written u n x new t l);
      }

  -- the text of the steps up to the empty clause
  share-text : (e : Entry) (t : HintedText) (o : Parsed) → Finds e.1 s t → IsShareText j F (steps_of (behind es (onto e o)).steps) t.text.items
  share-text e t o h =
      let w = written-more j F es s f.written u e.0 e.1 h.new h.takes (logged-now e.1 s h.new u h.takes h.lawful) in
      let split : steps_of (es ++ e ∷ o.steps) ≡ steps_of (es ++ e ∷ []) ++ steps_of o.steps =
      ap steps_of (sym (append_assoc es (e ∷ []) o.steps)) ∙ steps_of-append (es ++ e ∷ []) o.steps in
      let text = h.text in
      record {
        hinted = w.hinted;
        last = h.new.annotator.formula;
        taken = w.taken;
        lost = h.lost;
        rest = steps_of o.steps;
        front = split ∙ ap (λ (ss : List ProofStep). ss ++ steps_of o.steps) (sym w.steps);
        logged = w.logged;
        parts = w.parts;
        text_is = text.text ∙ w.text_is;
      }

  -- `disprove` comes to the empty clause by the same step
  refutes : (e : Entry) (us : List Entry) (n : ℕ) → MayBeTaken (turn s) standard E e.1 → IsLost (after E e.1) → n ≡ cond (turn s) (s.written + 1) s.written →
      SharedIn j standard 0 F (steps_of (es ++ e ∷ us)) n
  refutes e us n may lost k =
      let now : IsLost (after f.last e.1) = alike_lost (after E e.1) (after f.last e.1) (alike_after E f.last e.1 back) lost in
      let c : ℕ = count j 0 (steps_of es) in
      let one : SharedIn j standard at f.last (e.1 ∷ steps_of us) (cond (j at) (0 + 1) 0) =
      inr (unlost, taken e.1 may, (0, in-now j standard (at + 1) (after f.last e.1) (steps_of us) now, refl)) in
      let front : SharedIn j standard 0 F (steps_of es ++ e.1 ∷ steps_of us) (c + cond (j at) (0 + 1) 0) =
      in-behind j standard 0 F f.last (steps_of es) (e.1 ∷ steps_of us) (cond (j at) (0 + 1) 0) f.made one in
      let number : c + cond (j at) (0 + 1) 0 ≡ n =
      sym (k ∙ (ap (λ (i : ℕ). cond (turn s) (i + 1) i) own-at ∙ (ap (λ (own : Bool). cond own (c + 1) c) turn-at ∙ one-more (j at) c))) in
      subst (λ (ss : List ProofStep). SharedIn j standard 0 F ss n) (sym (steps_of-append es (e ∷ us)))
      (subst (λ (i : ℕ). SharedIn j standard 0 F (steps_of es ++ e.1 ∷ steps_of us) i) number front)

  finds-says : (e : Entry) (t : HintedText) (o : Parsed) → Finds e.1 s t → SaysEnd j (ending.Shown t) F (behind es (onto e o))
  unfolding share-text written-more
  finds-says e t o k =
      let g = k.takes in
      let text = k.text in
      let l : IsLogged e.1 = logged-now e.1 s k.new u g k.lawful in
      let more = written-more j F es s f.written u e.0 e.1 k.new g l in
      record {
        refutes = refutes e o.steps t.steps (taken-plain (turn s) s.annotator.formula e.1 g.proof g.may)
            (lost-behind j F es s f.written u e.0 e.1 k.new g l k.lost) (text.steps ∙ g.written);
        hinted = share-text e t o k;
        counted = text.steps ∙ more.counted;
      }

  -- a step that is not taken
  line-says : (n c : ℕ) (e : Entry) (o : Parsed) → EndsAt (ending.Refused (outcome.RefusedLine n c)) s e → ShareLineFails j n c F (behind es (onto e o))
  line-says n c e o (line, bad) =
      let not-now : NotTaken (j at) standard f.last e.1 c =
      subst (λ (own : Bool). NotTaken own standard f.last e.1 c) turn-at (alike_not_taken (turn s) E f.last e.1 c back bad) in
      let here : RefusedShared j standard at f.last (e.1 ∷ steps_of o.steps) 0 (Some c) = (unlost, inl (refl, (c, not-now, refl))) in
      let place : length es ≡ length (steps_of es) + 0 = omega (arith, same-length es) in
      inl (
        length (steps_of es) + 0,
        subst (λ (ss : List ProofStep). RefusedShared j standard 0 F ss (length (steps_of es) + 0) (Some c)) (sym (steps_of-append es (e ∷ o.steps)))
            (refused-front j standard 0 F f.last (steps_of es) (e.1 ∷ steps_of o.steps) 0 (Some c) f.made here),
        subst (λ (i : ℕ). IsOnLine (es ++ e ∷ o.steps) i n) place (on-line es (e ∷ o.steps) n line),
      )

  -- what is said of a step
  pub step-says : (x : Ending) (e : Entry) (o : Parsed) → EndsAt x s e → SaysEnd j x F (behind es (onto e o))
  step-says (ending.Shown t) e o h = finds-says e t o h
  step-says (ending.Refused (outcome.Verified n)) e o h = h
  step-says (ending.Refused (outcome.RefusedLine n c)) e o h = line-says n c e o h
  step-says (ending.Refused (outcome.RefusedEnd c)) e o h = absurd h
  step-says (ending.Refused (outcome.RefusedInput r n c)) e o h = h
  step-says (ending.Refused outcome.ReadFault) e o h = tt
  step-says (ending.Refused outcome.NoMemory) e o h = tt

  -- no step follows
  nowhere : ShareLeadsNowhere j F (behind es finished)
  nowhere = (
    length (steps_of es) + 0,
    subst (λ (ss : List ProofStep). RefusedShared j standard 0 F ss (length (steps_of es) + 0) None) (sym (steps_of-append es []))
        (refused-front j standard 0 F f.last (steps_of es) [] 0 None f.made (unlost, refl, refl)),
  )

  pub end-says : ShareEndFails j F (behind es finished)
  end-says = (nowhere, refl)

  pub offence-says : (x : LogError) (n c : ℕ) → IsOffence (Some x) n c → ShareLineFails j n c F (behind es (stopped x))
  offence-says x n c o = inr (nowhere, o)

-- before the first step
pub at-once : (j : Share) (F : PrenexFormula) (x : Ending) (p : Parsed) → EndsAtOnce j F x → SaysEnd j x F p
at-once j F (ending.Shown t) p (l, z, e) = record {
  refutes = subst (λ (i : ℕ). SharedIn j standard 0 F (steps_of p.steps) i) (sym z) (in-now j standard 0 F (steps_of p.steps) l);
  hinted = record {
    hinted = [];
    last = begun F;
    taken = refl;
    lost = lost-begun F l;
    rest = steps_of p.steps;
    front = refl;
    logged = tt;
    parts = tt;
    text_is = e ∙ sym (append-nil (header_in j));
  };
  counted = z;
}
at-once j F (ending.Refused o) p e = subst (λ (w : Outcome). Refuses j w F p) (sym e) tt

pub once-no_fault : (j : Share) (F : PrenexFormula) (x : Ending) → EndsAtOnce j F x → x ≡ ending.Refused outcome.ReadFault → ⊥
once-no_fault j F (ending.Shown t) h e = cc
once-no_fault j F (ending.Refused o) h e = cc

pub begins : (F : PrenexFormula) (p : Part) (s : Scribe) → IsBegun F p s → IsSoFar (share_of p) F [] s
begins F p s b =
    let N : s.annotator.formula ≡ begun F = ap (λ (x : Annotating). x.formula) b.annotator in
    let none : s.annotator.steps ≡ 0 = ap (λ (x : Annotating). x.steps) b.annotator in
    let alike : AreAlike F (plain s.annotator.formula) =
    subst (λ (M : NumberedFormula). AreAlike F (plain M)) (sym N) (alike_swapped (plain (begun F)) F (begun-alike F)) in
    record {
      written = record {
        share = ap share_of b.part;
        hinted = [];
        taken = sym N;
        steps = refl;
        many = none;
        counted = b.written;
        logged = tt;
        parts = tt;
        text_is = b.text ∙ sym (append-nil (header_in (share_of p)));
      };
      last = F;
      made = refl;
      alike = alike;
    }
