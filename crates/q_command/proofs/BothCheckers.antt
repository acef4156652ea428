-- The checkers of both profiles, step by step, and their ends.
use Rattle.std.proofs.Common.{◌≡◌, inl, inr, ◌<◌, ◌==◌, ◌+◌, ◌∙◌, refl, sym, ap, subst, arith, ℕ, Bool, true, false, List, [], ◌∷◌, ◌++◌, map, length, append-nil, length-append, Option, Some, None, Result, Ok, Err, IfOk, IfErr, OnOk, IsSome, IsSomeAnd, is_some}
use Rattle.std.proofs.lemmas.Bool.Decides.{nat_tests}
use Rattle.q_logic.specs.Prelude.{PrenexFormula, Prefix, Matrix, Hinted, HintedValid, NumberedFormula, ProofPart, begun, plain, strip, hinted_after, standard, numbered, blocks, SameBlocks, SameFormula, AreAlike, ProofStep, Valid, Cause, after, UndoEntry, Undos}
use Rattle.q_logic.specs.declared.limits.Limits.{Limits}
use Rattle.q_logic.proofs.Common.{alike_itself, alike_swapped, live-numbered}
use Rattle.q_logic.proofs.HintedRuns.{hinted-valid, hinted-after}
use Rattle.q_hinted.specs.Logs.{Entry as BothEntry, plain_entry, hinted_entry, hinted_in}
use Rattle.q_judge.specs.Tried.{IsEndRefusal}
use Rattle.q_judge.specs.declared.error.CheckError.{CheckError}
use Rattle.q_judge.specs.declared.error.CheckError.TheVariants.{Refused, NoMemory}
use Rattle.q_check.specs.declared.checker.Verified.{Verified}
use Rattle.q_check.specs.Alike.{Leads}
use Rattle.q_check.specs.Checked.{Checked, HasGrown, IsRefusal}
use Rattle.q_check.specs.Replays.{IsUnfitFor, IsHintUnfitFor}
use Rattle.q_check.specs.HintChecks.{HintChecked, IsHintRefusal}
use Rattle.q_check.proofs.CheckerRuns.{leads_begin, leads_more, leads_undos}
use Rattle.q_same_steps.specs.Making.{Applies, Unfit, made}
use Rattle.q_same_steps.specs.HintedMaking.{hinted_made}
use Rattle.q_shares.specs.Shares.{Share, AreMade, ShareRun, judged}
use Rattle.q_shares.specs.HintedShares.{AreHintedMade}
use Rattle.q_command.specs.Parts.{IsWhole}
use Rattle.q_command.specs.Logs.{Entry, HintedEntry, steps_of, hinted_of, EndsApart}
use Rattle.q_command.specs.Judging.{AreBehind, ArePure, IsFree, IsMade, LeadsMade, SameTask, IsBehindPlain, IsBehindHinted, HasTakenPlain, HasTakenHinted, IsBadPlain, IsBadHinted, HavePassedPlain, HaveEndedPlain, HaveStoppedPlain, HavePassed, HaveStopped, Leaves, plain_in, bare}
use Rattle.q_command.specs.LazyCheckers.{IsHeld, first_in, IsReadyPlain, IsReadyHinted, IsNewPlain, IsSteppedPlain, IsSteppedHinted, KeepsNone, KeepsNoHinted, new_hinted, HasSteppedPlain, HasSteppedHinted, IsEndedPlain, IsEndedHinted, hints_taken}
use Rattle.q_command.specs.declared.judges.Judges.{Judges}
use Rattle.q_command.proofs.SharedSteps.{judged-cause, made_begin, made_more, whole-leads}
use Rattle.q_command.proofs.SharedHints.{Fits as FitsHinted, Fails as FailsHinted, are-hinted-more, hinted-made-more}
use Rattle.q_command.proofs.LogEntries.{steps_of-length, plain_in-append, hinted_in-append, steps_of-append, hinted_of-append, strip-append, hinted_in-plain, bare-plain, bare-hinted, stripped-steps, only-plain, hinted_of-length}

pub plain-begun : (F : PrenexFormula) → plain (begun F) ≡ F
plain-begun F = ap (λ (X : Matrix). let G : PrenexFormula = record { prefix = F.prefix; matrix = X } in G) (live-numbered F.matrix)

-- one plain step more
pub grown-plain : (keep : Bool) (F G : PrenexFormula) (ss : List ProofStep) (s : ProofStep) (old new : List UndoEntry) → Leads standard F ss G → (keep ≡ true → Undos F ss old) → HasGrown keep G s old new → keep ≡ true → Undos F (ss ++ s ∷ []) new
grown-plain true F G ss s old new l u g k = subst (λ (us : List UndoEntry). Undos F (ss ++ s ∷ []) us) (sym g.2) (leads_undos standard F ss G s old g.0 l (u k) g.1)
grown-plain false F G ss s old new l u g k = cc

-- what the checker's answer says of the step, where the share tells whether it is judged
abbrev Fits : Share → List Entry → PrenexFormula → ProofStep → Type 0
Fits j ps G s = judged (j (length ps)) (Valid standard G s) (Applies standard G s)

more-plain : (keep : Bool) (j : Share) (F : PrenexFormula) (ps : List Entry) (n : ℕ) (s : ProofStep) (G : PrenexFormula) (old : List UndoEntry) (new : Checked) → LeadsMade j F (steps_of ps) G → (keep ≡ true → IsWhole j → Undos F (steps_of ps) old) → new.limits ≡ standard → new.keeps ≡ keep → Fits j ps G s → AreAlike (after G s) new.formula → (j (length ps) ≡ true → HasGrown keep G s old new.undo) → HasTakenPlain keep j F (ps ++ (n, s) ∷ []) new
more-plain keep j F ps n s G old new l u m k v a g =
    let e : steps_of (ps ++ (n, s) ∷ []) ≡ steps_of ps ++ s ∷ [] = steps_of-append ps ((n, s) ∷ []) in
    let v' : judged (j (length (steps_of ps))) (Valid standard G s) (Applies standard G s) = subst (λ (i : ℕ). judged (j i) (Valid standard G s) (Applies standard G s)) (sym (steps_of-length ps)) v in
    record {
      some = omega (arith, length-append ps ((n, s) ∷ []));
      limits = m;
      keeps = k;
      leads = subst (λ (ss : List ProofStep). LeadsMade j F ss new.formula) (sym e) (made_more j F (steps_of ps) G new.formula s l v' a);
      undone = λ t w. subst (λ (ss : List ProofStep). Undos F ss new.undo) (sym e)
          (grown-plain keep F G (steps_of ps) s old new.undo (whole-leads j F (steps_of ps) G w l) (λ x. u x w) (g (w (length ps))) t);
    }

-- by the checker that is there
plain-goes-on : (keep : Bool) (j : Share) (F : PrenexFormula) (ps : List Entry) (n : ℕ) (s : ProofStep) (t : Bool) (u : Unit) (old new : Checked) → t ≡ j (length ps) → HasTakenPlain keep j F ps old → IsSteppedPlain s t (Ok u) old new → HasTakenPlain keep j F (ps ++ (n, s) ∷ []) new
plain-goes-on keep j F ps n s t u old new q h r =
    more-plain keep j F ps n s old.formula old.undo new h.leads h.undone (r.limits ∙ h.limits) (r.keeps ∙ h.keeps)
    (subst (λ (x : Limits). judged (j (length ps)) (Valid x old.formula s) (Applies x old.formula s)) h.limits
    (subst (λ (b : Bool). judged b (Valid old.limits old.formula s) (Applies old.limits old.formula s)) q r.valid))
    r.after (λ w. subst (λ (b : Bool). HasGrown b old.formula s old.undo new.undo) h.keeps (r.undo (q ∙ w)))

-- a refusal, as it is said of a formula
refused-plain : (b : Bool) (j : Share) (F : PrenexFormula) (ps : List Entry) (s : ProofStep) (c : Checked) (e : CheckError) → b ≡ j (length ps) → c.limits ≡ standard → LeadsMade j F (steps_of ps) c.formula → judged b (IsRefusal c.limits c.formula s e) (IsUnfitFor c.limits c.formula s e) → IsBadPlain j F ps s e
refused-plain b j F ps s c (Refused n) q m l r = record {
  steps = l.steps;
  cause = subst (λ (x : Bool). judged x (Cause standard (made F (steps_of ps)) s n) (Unfit standard (made F (steps_of ps)) s n)) q
      (judged-cause b standard c.formula (made F (steps_of ps)) s n (alike_swapped (made F (steps_of ps)) c.formula l.alike)
      (subst (λ (x : Limits). judged b (Cause x c.formula s n) (Unfit x c.formula s n)) m (of-refused b r)));
}
  where
    of-refused : (b : Bool) → judged b (IsRefusal c.limits c.formula s (Refused n)) (IsUnfitFor c.limits c.formula s (Refused n)) → judged b (Cause c.limits c.formula s n) (Unfit c.limits c.formula s n)
    of-refused true h = h
    of-refused false h = h
refused-plain b j F ps s c NoMemory q m l r = tt

-- by a checker that was made for it
plain-begins : (keep : Bool) (j : Share) (F : PrenexFormula) (ps : List Entry) (n : ℕ) (s : ProofStep) (t : Bool) (u : Unit) (first new : Checked) → t ≡ j (length ps) → ps ≡ [] → IsNewPlain keep F first → IsSteppedPlain s t (Ok u) first new → HasTakenPlain keep j F (ps ++ (n, s) ∷ []) new
plain-begins keep j F ps n s t u first new q z h r =
    subst (λ (xs : List Entry). HasTakenPlain keep j F (xs ++ (n, s) ∷ []) new) (sym z)
    (more-plain keep j F [] n s first.formula first.undo new (made_begin j F first.formula h.alike) (λ x w. h.undo) (r.limits ∙ h.limits) (r.keeps ∙ h.keeps)
    (subst (λ (x : Limits). judged (j 0) (Valid x first.formula s) (Applies x first.formula s)) h.limits
    (subst (λ (b : Bool). judged b (Valid first.limits first.formula s) (Applies first.limits first.formula s)) (q ∙ ap (λ (xs : List Entry). j (length xs)) z) r.valid))
    r.after (λ w. subst (λ (b : Bool). HasGrown b first.formula s first.undo new.undo) h.keeps (r.undo ((q ∙ ap (λ (xs : List Entry). j (length xs)) z) ∙ w))))

begun-plain : (j : Share) (F : PrenexFormula) (ps : List Entry) (c : Checked) → ps ≡ [] → AreAlike F c.formula → LeadsMade j F (steps_of ps) c.formula
begun-plain j F ps c z a = subst (λ (xs : List Entry). LeadsMade j F (steps_of xs) c.formula) (sym z) (made_begin j F c.formula a)

-- one step with its proof part more
more-hinted : (keep : Bool) (j : Share) (F : PrenexFormula) (hs : List HintedEntry) (n : ℕ) (s : ProofStep) (t : ProofPart) (N : NumberedFormula) (old : List UndoEntry) (new : HintChecked) → AreHintedMade j standard 0 (begun F) (hinted_of hs) → N ≡ hinted_made (begun F) (hinted_of hs) → (IsWhole j → Leads standard F (strip (hinted_of hs)) (plain N)) → (keep ≡ true → IsWhole j → Undos F (strip (hinted_of hs)) old) → new.limits ≡ standard → new.keeps ≡ keep → FitsHinted (j (length hs)) standard N s t → new.formula ≡ hinted_after N s t → (j (length hs) ≡ true → HasGrown keep (plain N) s old new.undo) → HasTakenHinted keep j F (hs ++ (n, record { step = s; proof = t }) ∷ []) new
more-hinted keep j F hs n s t N old new r q l u m k v a g =
    let h : Hinted = record { step = s; proof = t } in
    let E : NumberedFormula = hinted_made (begun F) (hinted_of hs) in
    let e : hinted_of (hs ++ (n, h) ∷ []) ≡ hinted_of hs ++ h ∷ [] = hinted_of-append hs ((n, h) ∷ []) in
    let d : strip (hinted_of (hs ++ (n, h) ∷ [])) ≡ strip (hinted_of hs) ++ s ∷ [] = ap strip e ∙ strip-append (hinted_of hs) (h ∷ []) in
    let z : length (hinted_of hs) ≡ length hs = hinted_of-length hs in
    let i : length hs ≡ 0 + length (hinted_of hs) = omega (arith, z) in
    let v' : FitsHinted (j (0 + length (hinted_of hs))) standard E s t = subst (λ (x : ℕ). FitsHinted (j x) standard E s t) i (subst (λ (M : NumberedFormula). FitsHinted (j (length hs)) standard M s t) q v) in
    record {
      some = omega (arith, length-append hs ((n, h) ∷ []));
      limits = m;
      keeps = k;
      steps = subst (λ (xs : List Hinted). AreHintedMade j standard 0 (begun F) xs) (sym e) (are-hinted-more j standard 0 (begun F) (hinted_of hs) h r v');
      last = a ∙ (ap (λ (M : NumberedFormula). hinted_after M s t) q ∙ (sym (hinted-made-more (begun F) (hinted_of hs) h) ∙ ap (λ (xs : List Hinted). hinted_made (begun F) xs) (sym e)));
      leads = λ w.
          let x : HintedValid standard N s t = subst (λ (b : Bool). FitsHinted b standard N s t) (w (length hs)) v in
          let b : AreAlike (after (plain N) s) (plain new.formula) = subst (λ (M : NumberedFormula). AreAlike (after (plain N) s) (plain M)) (sym a) (hinted-after standard N s t x) in
          subst (λ (ss : List ProofStep). Leads standard F ss (plain new.formula)) (sym d) (leads_more standard F (strip (hinted_of hs)) (plain N) (plain new.formula) s (l w) (hinted-valid standard N s t x) b);
      undone = λ x w. subst (λ (ss : List ProofStep). Undos F ss new.undo) (sym d) (grown-plain keep F (plain N) (strip (hinted_of hs)) s old new.undo (l w) (λ y. u y w) (g (w (length hs))) x);
    }

hinted-goes-on : (keep : Bool) (j : Share) (F : PrenexFormula) (hs : List HintedEntry) (n : ℕ) (s : ProofStep) (t : ProofPart) (b : Bool) (u : Unit) (old new : HintChecked) → b ≡ j (length hs) → HasTakenHinted keep j F hs old → IsSteppedHinted s t b (Ok u) old new → HasTakenHinted keep j F (hs ++ (n, record { step = s; proof = t }) ∷ []) new
hinted-goes-on keep j F hs n s t b u old new q h r =
    more-hinted keep j F hs n s t old.formula old.undo new h.steps h.last h.leads h.undone (r.limits ∙ h.limits) (r.keeps ∙ h.keeps)
    (subst (λ (m : Limits). FitsHinted (j (length hs)) m old.formula s t) h.limits (subst (λ (x : Bool). FitsHinted x old.limits old.formula s t) q r.valid))
    r.after (λ w. subst (λ (x : Bool). HasGrown x (plain old.formula) s old.undo new.undo) h.keeps (r.undo (q ∙ w)))

-- a refusal, as it is said of the numbered formula behind the steps
hinted-refused : (b : Bool) (j : Share) (F : PrenexFormula) (hs : List HintedEntry) (s : ProofStep) (t : ProofPart) (c : HintChecked) (e : CheckError) → b ≡ j (length hs) → c.limits ≡ standard → AreHintedMade j standard 0 (begun F) (hinted_of hs) → c.formula ≡ hinted_made (begun F) (hinted_of hs) → judged b (IsHintRefusal c.limits c.formula s t e) (IsHintUnfitFor c.limits c.formula s t e) → IsBadHinted j F hs s t e
hinted-refused b j F hs s t c (Refused n) q m a l r = record {
  steps = a;
  cause = subst (λ (x : Bool). FailsHinted x standard (hinted_made (begun F) (hinted_of hs)) s t n) q
      (subst (λ (N : NumberedFormula). FailsHinted b standard N s t n) l (subst (λ (x : Limits). FailsHinted b x c.formula s t n) m (of-refused b r)));
}
  where
    of-refused : (b : Bool) → judged b (IsHintRefusal c.limits c.formula s t (Refused n)) (IsHintUnfitFor c.limits c.formula s t (Refused n)) → FailsHinted b c.limits c.formula s t n
    of-refused true h = h
    of-refused false h = h
hinted-refused b j F hs s t c NoMemory q m a l r = tt

leads-begun : (F : PrenexFormula) → Leads standard F [] (plain (begun F))
leads-begun F = leads_begin standard F (plain (begun F)) (subst (λ (G : PrenexFormula). AreAlike F G) (sym (plain-begun F)) (alike_itself F))

hinted-begins : (keep : Bool) (j : Share) (F : PrenexFormula) (hs : List HintedEntry) (n : ℕ) (s : ProofStep) (t : ProofPart) (b : Bool) (u : Unit) (new : HintChecked) → b ≡ j (length hs) → hs ≡ [] → IsSteppedHinted s t b (Ok u) (new_hinted keep F) new → HasTakenHinted keep j F (hs ++ (n, record { step = s; proof = t }) ∷ []) new
hinted-begins keep j F hs n s t b u new q z r =
    let o : b ≡ j 0 = q ∙ ap (λ (xs : List HintedEntry). j (length xs)) z in
    subst (λ (xs : List HintedEntry). HasTakenHinted keep j F (xs ++ (n, record { step = s; proof = t }) ∷ []) new) (sym z)
    (more-hinted keep j F [] n s t (begun F) [] new tt refl (λ w. leads-begun F) (λ x w. refl) r.limits r.keeps
    (subst (λ (x : Bool). FitsHinted x standard (begun F) s t) o r.valid) r.after (λ w. r.undo (o ∙ w)))

hinted-begun : (j : Share) (F : PrenexFormula) (hs : List HintedEntry) → hs ≡ [] → AreHintedMade j standard 0 (begun F) (hinted_of hs) × (begun F ≡ hinted_made (begun F) (hinted_of hs))
hinted-begun j F hs z = subst (λ (xs : List HintedEntry). AreHintedMade j standard 0 (begun F) (hinted_of xs) × (begun F ≡ hinted_made (begun F) (hinted_of xs))) (sym z) (tt, refl)

-- a step goes to the checker of its profile
pub behind-plain : (d : Share) (F : PrenexFormula) (old new : Judges) (es : List BothEntry) (n : ℕ) (s : ProofStep) → (IsBehindPlain old.keeps_undo d F (plain_in es) old.plain → IsBehindPlain old.keeps_undo d F (plain_in es ++ (n, s) ∷ []) new.plain) → IsHeld F new.origin → SameTask old new → new.hinted ≡ old.hinted → AreBehind d F old es → AreBehind d F new (es ++ (n, s, None) ∷ [])
behind-plain d F old new es n s f held same h b =
    let p : IsBehindPlain old.keeps_undo d F (plain_in es ++ (n, s) ∷ []) new.plain = f b.plain in
    let q : IsBehindPlain old.keeps_undo d F (plain_in (es ++ (n, s, None) ∷ [])) new.plain = subst (λ (ps : List Entry). IsBehindPlain old.keeps_undo d F ps new.plain) (sym (plain_in-append es ((n, s, None) ∷ []))) p in
    let i : hinted_in (es ++ (n, s, None) ∷ []) ≡ hinted_in es = hinted_in-append es ((n, s, None) ∷ []) ∙ append-nil (hinted_in es) in
    let j : IsBehindHinted old.keeps_undo d F (hinted_in (es ++ (n, s, None) ∷ [])) new.hinted = subst (λ (o : Option HintChecked). IsBehindHinted old.keeps_undo d F (hinted_in (es ++ (n, s, None) ∷ [])) o) (sym h) (subst (λ (hs : List HintedEntry). IsBehindHinted old.keeps_undo d F hs old.hinted) (sym i) b.hinted) in
    record {
      origin = held;
      plain = subst (λ (k : Bool). IsBehindPlain k d F (plain_in (es ++ (n, s, None) ∷ [])) new.plain) (sym same.keeps) q;
      hinted = subst (λ (k : Bool). IsBehindHinted k d F (hinted_in (es ++ (n, s, None) ∷ [])) new.hinted) (sym same.keeps) j;
    }

pub behind-hinted : (d : Share) (F : PrenexFormula) (old new : Judges) (es : List BothEntry) (n : ℕ) (s : ProofStep) (t : ProofPart) → (IsBehindHinted old.keeps_undo d F (hinted_in es) old.hinted → IsBehindHinted old.keeps_undo d F (hinted_in es ++ (n, record { step = s; proof = t }) ∷ []) new.hinted) → IsHeld F new.origin → SameTask old new → new.plain ≡ old.plain → AreBehind d F old es → AreBehind d F new (es ++ (n, s, Some t) ∷ [])
behind-hinted d F old new es n s t f held same h b =
    let more : List BothEntry = es ++ (n, s, Some t) ∷ [] in
    let p : IsBehindHinted old.keeps_undo d F (hinted_in es ++ (n, record { step = s; proof = t }) ∷ []) new.hinted = f b.hinted in
    let q : IsBehindHinted old.keeps_undo d F (hinted_in more) new.hinted = subst (λ (hs : List HintedEntry). IsBehindHinted old.keeps_undo d F hs new.hinted) (sym (hinted_in-append es ((n, s, Some t) ∷ []))) p in
    let i : plain_in more ≡ plain_in es = plain_in-append es ((n, s, Some t) ∷ []) ∙ append-nil (plain_in es) in
    let j : IsBehindPlain old.keeps_undo d F (plain_in more) new.plain = subst (λ (o : Option Checked). IsBehindPlain old.keeps_undo d F (plain_in more) o) (sym h) (subst (λ (ps : List Entry). IsBehindPlain old.keeps_undo d F ps old.plain) (sym i) b.plain) in
    record {
      origin = held;
      plain = subst (λ (k : Bool). IsBehindPlain k d F (plain_in more) new.plain) (sym same.keeps) j;
      hinted = subst (λ (k : Bool). IsBehindHinted k d F (hinted_in more) new.hinted) (sym same.keeps) q;
    }

-- what is in a place that is ready
pub ready-plain-some : (keep : Bool) (F : PrenexFormula) (old new : Option Checked) → IsReadyPlain keep F old new → IsSome new
ready-plain-some keep F (Some c) new h = ap is_some h
ready-plain-some keep F None (Some c) h = refl
ready-plain-some keep F None None h = absurd h

pub ready-hinted-some : (keep : Bool) (F : PrenexFormula) (old new : Option HintChecked) → IsReadyHinted keep F old new → IsSome new
ready-hinted-some keep F (Some c) new h = ap is_some h
ready-hinted-some keep F None new h = ap is_some h

pub ready-hints : (keep : Bool) (F : PrenexFormula) (old new : Option HintChecked) → IsReadyHinted keep F old new → hints_taken new ≡ hints_taken old
ready-hints keep F (Some c) new h = ap hints_taken h
ready-hints keep F None new h = ap hints_taken h

-- and in one that is ready for each formula that another place may hold
no_formula : PrenexFormula
no_formula = record { prefix = []; matrix = [] }

some-held : (o : Option PrenexFormula) → (F : PrenexFormula) × IsHeld F o
some-held None = (no_formula, tt)
some-held (Some G) = (G, refl)

pub filled-plain-some : (keep : Bool) (o : Option PrenexFormula) (old new : Option Checked) → ((F : PrenexFormula) → IsHeld F o → IsReadyPlain keep F old new) → IsSome new
filled-plain-some keep o old new h =
    let p : (F : PrenexFormula) × IsHeld F o = some-held o in
    ready-plain-some keep p.0 old new (h p.0 p.1)

-- an undo list that isn't kept stays so
ready-plain-none : (keep : Bool) (F : PrenexFormula) (old new : Option Checked) → IsReadyPlain keep F old new → keep ≡ false → KeepsNone old → KeepsNone new
ready-plain-none keep F (Some c) new h e k = subst (λ (o : Option Checked). KeepsNone o) (sym h) k
ready-plain-none keep F None (Some c) h e k = h.keeps ∙ e
ready-plain-none keep F None None h e k = absurd h

pub filled-plain-none : (j : Judges) (new : Option Checked) → ((F : PrenexFormula) → IsHeld F j.origin → IsReadyPlain j.keeps_undo F j.plain new) → IsFree j → KeepsNone new
filled-plain-none j new h f =
    let p : (F : PrenexFormula) × IsHeld F j.origin = some-held j.origin in
    ready-plain-none j.keeps_undo p.0 j.plain new (h p.0 p.1) f.keeps f.plain

ready-hinted-none : (keep : Bool) (F : PrenexFormula) (old new : Option HintChecked) → IsReadyHinted keep F old new → keep ≡ false → KeepsNoHinted old → KeepsNoHinted new
ready-hinted-none keep F (Some c) new h e k = subst (λ (o : Option HintChecked). KeepsNoHinted o) (sym h) k
ready-hinted-none keep F None new h e k = subst (λ (o : Option HintChecked). KeepsNoHinted o) (sym h) e

pub filled-hinted-none : (j : Judges) (new : Option HintChecked) → ((F : PrenexFormula) → IsHeld F j.origin → IsReadyHinted j.keeps_undo F j.hinted new) → IsFree j → KeepsNoHinted new
filled-hinted-none j new h f =
    let p : (F : PrenexFormula) × IsHeld F j.origin = some-held j.origin in
    ready-hinted-none j.keeps_undo p.0 j.hinted new (h p.0 p.1) f.keeps f.hinted

pub stepped-none : (s : ProofStep) (t : Bool) (r : Result Unit CheckError) (old new : Option Checked) → HasSteppedPlain s t r old new → KeepsNone old → KeepsNone new
stepped-none s t r (Some c) (Some d) h k = h.keeps ∙ k
stepped-none s t r (Some c) None h k = absurd h
stepped-none s t r None new h k = absurd h

stepped-hinted-none : (s : ProofStep) (t : ProofPart) (b : Bool) (r : Result Unit CheckError) (old new : Option HintChecked) → HasSteppedHinted s t b r old new → KeepsNoHinted old → KeepsNoHinted new
stepped-hinted-none s t b r (Some c) (Some d) h k = h.keeps ∙ k
stepped-hinted-none s t b r (Some c) None h k = absurd h
stepped-hinted-none s t b r None new h k = absurd h

-- and behind a step, of either profile
pub free_after : (j k : Judges) (mid : Option Checked) (s : ProofStep) (t : Bool) (r : Result Unit CheckError) → ((F : PrenexFormula) → IsHeld F j.origin → IsReadyPlain j.keeps_undo F j.plain mid) → HasSteppedPlain s t r mid k.plain → k.keeps_undo ≡ j.keeps_undo → k.hinted ≡ j.hinted → OnOk r (IsFree j → IsFree k)
free_after j k mid s t (Ok u) h b e x = λ f. record {
  keeps = e ∙ f.keeps;
  plain = stepped-none s t (Ok u) mid k.plain b (filled-plain-none j mid h f);
  hinted = subst (λ (o : Option HintChecked). KeepsNoHinted o) (sym x) f.hinted;
}
free_after j k mid s t (Err w) h b e x = tt

pub free_after_hinted : (j k : Judges) (mid : Option HintChecked) (s : ProofStep) (t : ProofPart) (b : Bool) (r : Result Unit CheckError) → ((F : PrenexFormula) → IsHeld F j.origin → IsReadyHinted j.keeps_undo F j.hinted mid) → HasSteppedHinted s t b r mid k.hinted → k.keeps_undo ≡ j.keeps_undo → k.plain ≡ j.plain → OnOk r (IsFree j → IsFree k)
free_after_hinted j k mid s t b (Ok u) h q e x = λ f. record {
  keeps = e ∙ f.keeps;
  plain = subst (λ (o : Option Checked). KeepsNone o) (sym x) f.plain;
  hinted = stepped-hinted-none s t b (Ok u) mid k.hinted q (filled-hinted-none j mid h f);
}
free_after_hinted j k mid s t b (Err w) h q e x = tt

pub filled-hinted-some : (keep : Bool) (o : Option PrenexFormula) (old new : Option HintChecked) → ((F : PrenexFormula) → IsHeld F o → IsReadyHinted keep F old new) → IsSome new
filled-hinted-some keep o old new h =
    let p : (F : PrenexFormula) × IsHeld F o = some-held o in
    ready-hinted-some keep p.0 old new (h p.0 p.1)

pub filled-hints : (keep : Bool) (o : Option PrenexFormula) (old new : Option HintChecked) → ((F : PrenexFormula) → IsHeld F o → IsReadyHinted keep F old new) → hints_taken new ≡ hints_taken old
filled-hints keep o old new h =
    let p : (F : PrenexFormula) × IsHeld F o = some-held o in
    ready-hints keep p.0 old new (h p.0 p.1)

-- the answer of the checker that was there, or of one that was made for the step
goes-on-plain : (keep : Bool) (F : PrenexFormula) (s : ProofStep) (t : Bool) (u : Unit) (c : Checked) (new : Option Checked) → HasSteppedPlain s t (Ok u) (Some c) new → (j : Share) (ps : List Entry) (line : ℕ) → t ≡ j (length ps) → HasTakenPlain keep j F ps c → IsBehindPlain keep j F (ps ++ (line, s) ∷ []) new
goes-on-plain keep F s t u c (Some d) k j ps line q b = plain-goes-on keep j F ps line s t u c d q b k
goes-on-plain keep F s t u c None k j ps line q b = absurd k

begins-plain : (keep : Bool) (F : PrenexFormula) (s : ProofStep) (t : Bool) (u : Unit) (c : Checked) (new : Option Checked) → IsNewPlain keep F c → HasSteppedPlain s t (Ok u) (Some c) new → (j : Share) (ps : List Entry) (line : ℕ) → t ≡ j (length ps) → ps ≡ [] → IsBehindPlain keep j F (ps ++ (line, s) ∷ []) new
begins-plain keep F s t u c (Some d) h k j ps line q z = plain-begins keep j F ps line s t u c d q z h k
begins-plain keep F s t u c None h k j ps line q z = absurd k

pub answer-plain : (keep : Bool) (F : PrenexFormula) (s : ProofStep) (t : Bool) (r : Result Unit CheckError) (old mid new : Option Checked) → IsReadyPlain keep F old mid → HasSteppedPlain s t r mid new → OnOk r ((j : Share) → (ps : List Entry) → (line : ℕ) → t ≡ j (length ps) → IsBehindPlain keep j F ps old → IsBehindPlain keep j F (ps ++ (line, s) ∷ []) new)
answer-plain keep F s t (Err e) old mid new h k = tt
answer-plain keep F s t (Ok u) (Some c) mid new h k = goes-on-plain keep F s t u c new (subst (λ (o : Option Checked). HasSteppedPlain s t (Ok u) o new) h k)
answer-plain keep F s t (Ok u) None (Some c) new h k = begins-plain keep F s t u c new h k
answer-plain keep F s t (Ok u) None None new h k = absurd h

refuses-plain : (s : ProofStep) (t : Bool) (e : CheckError) (c : Checked) (new : Option Checked) → HasSteppedPlain s t (Err e) (Some c) new → judged t (IsRefusal c.limits c.formula s e) (IsUnfitFor c.limits c.formula s e)
refuses-plain s t e c (Some d) k = k.refused
refuses-plain s t e c None k = absurd k

pub refusal-plain : (keep : Bool) (F : PrenexFormula) (s : ProofStep) (t : Bool) (r : Result Unit CheckError) (old mid new : Option Checked) → IsReadyPlain keep F old mid → HasSteppedPlain s t r mid new → IfErr r (λ e. (j : Share) → (ps : List Entry) → t ≡ j (length ps) → IsBehindPlain keep j F ps old → IsBadPlain j F ps s e)
refusal-plain keep F s t (Ok u) old mid new h k = tt
refusal-plain keep F s t (Err e) (Some c) mid new h k = λ j ps q b.
    refused-plain t j F ps s c e q b.limits b.leads (refuses-plain s t e c new (subst (λ (o : Option Checked). HasSteppedPlain s t (Err e) o new) h k))
refusal-plain keep F s t (Err e) None (Some c) new h k = λ j ps q z. refused-plain t j F ps s c e q h.limits (begun-plain j F ps c z h.alike) (refuses-plain s t e c new k)
refusal-plain keep F s t (Err e) None None new h k = absurd h

goes-on-hinted : (keep : Bool) (F : PrenexFormula) (s : ProofStep) (t : ProofPart) (b : Bool) (u : Unit) (c : HintChecked) (new : Option HintChecked) → HasSteppedHinted s t b (Ok u) (Some c) new → (j : Share) (hs : List HintedEntry) (line : ℕ) → b ≡ j (length hs) → HasTakenHinted keep j F hs c → IsBehindHinted keep j F (hs ++ (line, record { step = s; proof = t }) ∷ []) new
goes-on-hinted keep F s t b u c (Some d) k j hs line q h = hinted-goes-on keep j F hs line s t b u c d q h k
goes-on-hinted keep F s t b u c None k j hs line q h = absurd k

begins-hinted : (keep : Bool) (F : PrenexFormula) (s : ProofStep) (t : ProofPart) (b : Bool) (u : Unit) (new : Option HintChecked) → HasSteppedHinted s t b (Ok u) (Some (new_hinted keep F)) new → (j : Share) (hs : List HintedEntry) (line : ℕ) → b ≡ j (length hs) → hs ≡ [] → IsBehindHinted keep j F (hs ++ (line, record { step = s; proof = t }) ∷ []) new
begins-hinted keep F s t b u (Some d) k j hs line q z = hinted-begins keep j F hs line s t b u d q z k
begins-hinted keep F s t b u None k j hs line q z = absurd k

pub answer-hinted : (keep : Bool) (F : PrenexFormula) (s : ProofStep) (t : ProofPart) (b : Bool) (r : Result Unit CheckError) (old mid new : Option HintChecked) → IsReadyHinted keep F old mid → HasSteppedHinted s t b r mid new → OnOk r ((j : Share) → (hs : List HintedEntry) → (line : ℕ) → b ≡ j (length hs) → IsBehindHinted keep j F hs old → IsBehindHinted keep j F (hs ++ (line, record { step = s; proof = t }) ∷ []) new)
answer-hinted keep F s t b (Err e) old mid new h k = tt
answer-hinted keep F s t b (Ok u) (Some c) mid new h k = goes-on-hinted keep F s t b u c new (subst (λ (o : Option HintChecked). HasSteppedHinted s t b (Ok u) o new) h k)
answer-hinted keep F s t b (Ok u) None mid new h k = begins-hinted keep F s t b u new (subst (λ (o : Option HintChecked). HasSteppedHinted s t b (Ok u) o new) h k)

refuses-hinted : (s : ProofStep) (t : ProofPart) (b : Bool) (e : CheckError) (c : HintChecked) (new : Option HintChecked) → HasSteppedHinted s t b (Err e) (Some c) new → judged b (IsHintRefusal c.limits c.formula s t e) (IsHintUnfitFor c.limits c.formula s t e)
refuses-hinted s t b e c (Some d) k = k.refused
refuses-hinted s t b e c None k = absurd k

pub refusal-hinted : (keep : Bool) (F : PrenexFormula) (s : ProofStep) (t : ProofPart) (b : Bool) (r : Result Unit CheckError) (old mid new : Option HintChecked) → IsReadyHinted keep F old mid → HasSteppedHinted s t b r mid new → IfErr r (λ e. (j : Share) → (hs : List HintedEntry) → b ≡ j (length hs) → IsBehindHinted keep j F hs old → IsBadHinted j F hs s t e)
refusal-hinted keep F s t b (Ok u) old mid new h k = tt
refusal-hinted keep F s t b (Err e) (Some c) mid new h k = λ j hs q w.
    hinted-refused b j F hs s t c e q w.limits w.steps w.last (refuses-hinted s t b e c new (subst (λ (o : Option HintChecked). HasSteppedHinted s t b (Err e) o new) h k))
refusal-hinted keep F s t b (Err e) None mid new h k = λ j hs q z.
    let w = hinted-begun j F hs z in
    hinted-refused b j F hs s t (new_hinted keep F) e q refl w.0 w.1 (refuses-hinted s t b e (new_hinted keep F) new (subst (λ (o : Option HintChecked). HasSteppedHinted s t b (Err e) o new) h k))

-- want of memory says nothing
pub memory-plain : (j : Share) (F : PrenexFormula) (s : ProofStep) (e : CheckError) → e ≡ NoMemory → (ps : List Entry) → IsBadPlain j F ps s e
memory-plain j F s e z ps = subst (λ (x : CheckError). IsBadPlain j F ps s x) (sym z) tt

pub memory-hinted : (j : Share) (F : PrenexFormula) (s : ProofStep) (t : ProofPart) (e : CheckError) → e ≡ NoMemory → (hs : List HintedEntry) → IsBadHinted j F hs s t e
memory-hinted j F s t e z hs = subst (λ (x : CheckError). IsBadHinted j F hs s t x) (sym z) tt

-- before the first step
pub made-behind : (d : Share) (F : PrenexFormula) (origin : Option PrenexFormula) (keep : Bool) (j : Judges) → IsHeld F origin → IsMade origin keep j → AreBehind d F j []
made-behind d F origin keep j held m = record {
  origin = subst (λ (o : Option PrenexFormula). IsHeld F o) (sym m.origin_is) held;
  plain = subst (λ (o : Option Checked). IsBehindPlain j.keeps_undo d F [] o) (sym m.plain) refl;
  hinted = subst (λ (o : Option HintChecked). IsBehindHinted j.keeps_undo d F [] o) (sym m.hinted) refl;
}

pub made-free : (origin : Option PrenexFormula) (keep : Bool) (j : Judges) → IsMade origin keep j → keep ≡ false → IsFree j
made-free origin keep j m e = record {
  keeps = m.keeps ∙ e;
  plain = subst (λ (o : Option Checked). KeepsNone o) (sym m.plain) tt;
  hinted = subst (λ (o : Option HintChecked). KeepsNoHinted o) (sym m.hinted) tt;
}

pub made-hints : (origin : Option PrenexFormula) (keep : Bool) (j : Judges) → IsMade origin keep j → hints_taken j.hinted ≡ 0
made-hints origin keep j m = ap hints_taken m.hinted

-- the end
pub same_last : (E f G : PrenexFormula) → AreAlike E f → SameFormula f G → SameFormula E G
same_last E f G a s = record {
  same_blocks = subst (λ (P : Prefix). SameBlocks (blocks P) (blocks G.prefix)) (sym a.prefix) s.same_blocks;
  same_clauses = λ C. a.clauses C ∙ s.same_clauses C;
}

pub ends-apart : (E f G : PrenexFormula) (c : ℕ) → AreAlike E f → IsEndRefusal f G (Refused c) → EndsApart E G c
ends-apart E f G c a (inl (nine, apart)) =
    let d : ¬ SameBlocks (blocks E.prefix) (blocks G.prefix) = λ s. apart (subst (λ (P : Prefix). SameBlocks (blocks P) (blocks G.prefix)) a.prefix s) in
    record { differ = λ s. d s.same_blocks; why = inl (nine, d) }
ends-apart E f G c a (inr (ten, same, apart)) = record {
  differ = λ s. apart (λ C. sym (a.clauses C) ∙ s.same_clauses C);
  why = inr (ten, subst (λ (P : Prefix). SameBlocks (blocks P) (blocks G.prefix)) (sym a.prefix) same);
}

pub plain-passes : (keep : Bool) (j : Share) (F : PrenexFormula) (ps : List Entry) (c : Checked) (G : PrenexFormula) (us : List UndoEntry) → HasTakenPlain keep j F ps c → SameFormula c.formula G → us ≡ c.undo → HavePassedPlain keep j F ps G us
plain-passes keep j F ps c G us h s u = record {
  run = record { steps = h.leads.steps; same = same_last (made F (steps_of ps)) c.formula G h.leads.alike s };
  undone = λ k w. subst (λ (vs : List UndoEntry). Undos F (steps_of ps) vs) (sym u) (h.undone k w);
}

pub plain-passes-now : (keep : Bool) (j : Share) (F : PrenexFormula) (ps : List Entry) (f G : PrenexFormula) (us : List UndoEntry) → ps ≡ [] → AreAlike F f → SameFormula f G → us ≡ [] → HavePassedPlain keep j F ps G us
plain-passes-now keep j F ps f G us z a s u =
    subst (λ (xs : List Entry). HavePassedPlain keep j F xs G us) (sym z) (record { run = record { steps = tt; same = same_last F f G a s }; undone = λ k w. u })

pub plain-stops : (keep : Bool) (j : Share) (F : PrenexFormula) (ps : List Entry) (c : Checked) (G : PrenexFormula) (e : CheckError) → HasTakenPlain keep j F ps c → IsEndRefusal c.formula G e → HaveStoppedPlain j F ps G e
plain-stops keep j F ps c G (Refused n) h r = record { steps = h.leads.steps; apart = ends-apart (made F (steps_of ps)) c.formula G n h.leads.alike r }
plain-stops keep j F ps c G NoMemory h r = tt

pub plain-stops-now : (j : Share) (F : PrenexFormula) (ps : List Entry) (f G : PrenexFormula) (e : CheckError) → ps ≡ [] → AreAlike F f → IsEndRefusal f G e → HaveStoppedPlain j F ps G e
plain-stops-now j F ps f G (Refused n) z a r =
    subst (λ (xs : List Entry). HaveEndedPlain j F xs G n) (sym z) (record { steps = tt; apart = ends-apart F f G n a r })
plain-stops-now j F ps f G NoMemory z a r = tt

-- a checker of hints is there only where steps have proof parts, and then all have
all-hinted-then : (es : List BothEntry) → 0 < length (hinted_in es) → ArePure es → es ≡ map hinted_entry (hinted_in es)
all-hinted-then es h (inr q) = q
all-hinted-then es h (inl q) =
    let z : hinted_in es ≡ [] = ap hinted_in q ∙ hinted_in-plain (plain_in es) in
    let n : length (hinted_in es) ≡ 0 = ap length z in
    absurd (omega (arith, n, h))

hinted-left : (keep : Bool) (j : Share) (F : PrenexFormula) (es : List BothEntry) (c : HintChecked) → HasTakenHinted keep j F (hinted_in es) c → ArePure es → Leaves j F es (plain c.formula)
hinted-left keep j F es c h p = inr (record { all = all-hinted-then es h.some p; steps = h.steps; last_is = ap plain h.last })

bare-steps : (es : List BothEntry) → es ≡ map hinted_entry (hinted_in es) → steps_of (bare es) ≡ strip (hinted_of (hinted_in es))
bare-steps es q = ap (λ (xs : List BothEntry). steps_of (bare xs)) q ∙ (ap steps_of (bare-hinted (hinted_in es)) ∙ stripped-steps (hinted_in es))

pub hinted-passes : (keep : Bool) (j : Share) (F : PrenexFormula) (es : List BothEntry) (c : HintChecked) (G : PrenexFormula) (us : List UndoEntry) → HasTakenHinted keep j F (hinted_in es) c → ArePure es → SameFormula (plain c.formula) G → us ≡ c.undo → HavePassed keep j F es G us
hinted-passes keep j F es c G us h p s u = record {
  last = plain c.formula;
  leaves = hinted-left keep j F es c h p;
  same = s;
  undone = λ k w. subst (λ (vs : List UndoEntry). Undos F (steps_of (bare es)) vs) (sym u) (subst (λ (ss : List ProofStep). Undos F ss c.undo) (sym (bare-steps es (all-hinted-then es h.some p))) (h.undone k w));
}

pub hinted-stops : (keep : Bool) (j : Share) (F : PrenexFormula) (es : List BothEntry) (c : HintChecked) (G : PrenexFormula) (e : CheckError) → HasTakenHinted keep j F (hinted_in es) c → ArePure es → IsEndRefusal (plain c.formula) G e → HaveStopped j F es G e
hinted-stops keep j F es c G (Refused n) h p r = record { last = plain c.formula; leaves = hinted-left keep j F es c h p; apart = ends-apart (plain c.formula) (plain c.formula) G n (alike_itself (plain c.formula)) r }
hinted-stops keep j F es c G NoMemory h p r = tt

pub none-hinted : (keep : Bool) (j : Share) (F : PrenexFormula) (hs : List HintedEntry) (o : Option HintChecked) → is_some o ≡ false → IsBehindHinted keep j F hs o → hs ≡ []
none-hinted keep j F hs None n b = b
none-hinted keep j F hs (Some c) n b = cc

-- where there is no checker of hints, all steps are plain
pub all-plain-passes : (keep : Bool) (j : Share) (F : PrenexFormula) (es : List BothEntry) (G : PrenexFormula) (us : List UndoEntry) → hinted_in es ≡ [] → HavePassedPlain keep j F (plain_in es) G us → HavePassed keep j F es G us
all-plain-passes keep j F es G us z h =
    let q : es ≡ map plain_entry (plain_in es) = only-plain es z in
    let b : bare es ≡ plain_in es = ap bare q ∙ bare-plain (plain_in es) in
    record {
      last = made F (steps_of (plain_in es));
      leaves = inl (record { all = q; steps = h.run.steps; last_is = refl });
      same = h.run.same;
      undone = λ k w. subst (λ (ps : List Entry). Undos F (steps_of ps) us) (sym b) (h.undone k w);
    }

pub all-plain-stops : (j : Share) (F : PrenexFormula) (es : List BothEntry) (G : PrenexFormula) (e : CheckError) → hinted_in es ≡ [] → HaveStoppedPlain j F (plain_in es) G e → HaveStopped j F es G e
all-plain-stops j F es G (Refused n) z h = record { last = made F (steps_of (plain_in es)); leaves = inl (record { all = only-plain es z; steps = h.steps; last_is = refl }); apart = h.apart }
all-plain-stops j F es G NoMemory z h = tt

-- what is so of all plain steps at the end
abbrev PassedAll : Option Checked → PrenexFormula → PrenexFormula → Verified → Type 0
PassedAll old F G v = (keep : Bool) → (j : Share) → (ps : List Entry) → IsBehindPlain keep j F ps old → HavePassedPlain keep j F ps G v.undo

abbrev StoppedAll : Option Checked → PrenexFormula → PrenexFormula → CheckError → Type 0
StoppedAll old F G e = (keep : Bool) → (j : Share) → (ps : List Entry) → IsBehindPlain keep j F ps old → HaveStoppedPlain j F ps G e

-- the answers of the ends
pub ended-plain : (k : Bool) (F G : PrenexFormula) (r : Result Verified CheckError) (old new : Option Checked) → IsReadyPlain k F old new → IsSomeAnd new (IsEndedPlain G r) → IfOk r (PassedAll old F G)
ended-plain k F G (Err e) old new h q = tt
ended-plain k F G (Ok v) (Some c) new h q = λ keep j ps b.
    let w : IsEndedPlain G (Ok v) c = subst (λ (o : Option Checked). IsSomeAnd o (IsEndedPlain G (Ok v))) h q in
    plain-passes keep j F ps c G v.undo b w.same w.undo
ended-plain k F G (Ok v) None (Some c) h q = λ keep j ps z. plain-passes-now keep j F ps c.formula G v.undo z h.alike q.same (q.undo ∙ h.undo)
ended-plain k F G (Ok v) None None h q = absurd h

pub stopped-plain : (k : Bool) (F G : PrenexFormula) (r : Result Verified CheckError) (old new : Option Checked) → IsReadyPlain k F old new → IsSomeAnd new (IsEndedPlain G r) → IfErr r (StoppedAll old F G)
stopped-plain k F G (Ok v) old new h q = tt
stopped-plain k F G (Err e) (Some c) new h q = λ keep j ps b.
    let w : IsEndedPlain G (Err e) c = subst (λ (o : Option Checked). IsSomeAnd o (IsEndedPlain G (Err e))) h q in
    plain-stops keep j F ps c G e b w.refused
stopped-plain k F G (Err e) None (Some c) h q = λ keep j ps z. plain-stops-now j F ps c.formula G e z h.alike q.refused
stopped-plain k F G (Err e) None None h q = absurd h

pub memory-ends : (j : Share) (F : PrenexFormula) (ps : List Entry) (G : PrenexFormula) (e : CheckError) → e ≡ NoMemory → HaveStoppedPlain j F ps G e
memory-ends j F ps G e z = subst (λ (x : CheckError). HaveStoppedPlain j F ps G x) (sym z) tt

pub hinted-passed : (keep : Bool) (j : Share) (F : PrenexFormula) (es : List BothEntry) (o : Option HintChecked) (G : PrenexFormula) (r : Result Verified CheckError) (us : List UndoEntry) → IsSomeAnd o (IsEndedHinted G r) → IsBehindHinted keep j F (hinted_in es) o → ArePure es → r ≡ Ok (record { undo = us }) → HavePassed keep j F es G us
hinted-passed keep j F es None G r us k b p e = absurd k
hinted-passed keep j F es (Some c) G r us k b p e =
    let w : IsEndedHinted G (Ok (record { undo = us })) c = subst (λ (x : Result Verified CheckError). IsEndedHinted G x c) e k in
    hinted-passes keep j F es c G us b p w.same w.undo

pub hinted-stopped : (keep : Bool) (j : Share) (F : PrenexFormula) (es : List BothEntry) (o : Option HintChecked) (G : PrenexFormula) (r : Result Verified CheckError) (w : CheckError) → IsSomeAnd o (IsEndedHinted G r) → IsBehindHinted keep j F (hinted_in es) o → ArePure es → r ≡ Err w → HaveStopped j F es G w
hinted-stopped keep j F es None G r w k b p e = absurd k
hinted-stopped keep j F es (Some c) G r w k b p e =
    let x : IsEndedHinted G (Err w) c = subst (λ (y : Result Verified CheckError). IsEndedHinted G y c) e k in
    hinted-stops keep j F es c G w b p x.refused

pub plain-passed : (keep : Bool) (j : Share) (F : PrenexFormula) (es : List BothEntry) (o : Option Checked) (G : PrenexFormula) (r : Result Verified CheckError) (us : List UndoEntry) → hinted_in es ≡ [] → IsBehindPlain keep j F (plain_in es) o → IfOk r (PassedAll o F G) → r ≡ Ok (record { undo = us }) → HavePassed keep j F es G us
plain-passed keep j F es o G r us z b h e =
    all-plain-passes keep j F es G us z ((subst (λ (x : Result Verified CheckError). IfOk x (PassedAll o F G)) e h) keep j (plain_in es) b)

pub plain-stopped : (keep : Bool) (j : Share) (F : PrenexFormula) (es : List BothEntry) (o : Option Checked) (G : PrenexFormula) (r : Result Verified CheckError) (w : CheckError) → hinted_in es ≡ [] → IsBehindPlain keep j F (plain_in es) o → IfErr r (StoppedAll o F G) → r ≡ Err w → HaveStopped j F es G w
plain-stopped keep j F es o G r w z b h e =
    all-plain-stops j F es G w z ((subst (λ (y : Result Verified CheckError). IfErr y (StoppedAll o F G)) e h) keep j (plain_in es) b)

-- what is said for each formula that the place may hold
pub held-ok : (o : Option PrenexFormula) (r : Result Unit CheckError) (P : PrenexFormula → Type 0) → ((F : PrenexFormula) → IsHeld F o → OnOk r (P F)) → OnOk r ((F : PrenexFormula) → IsHeld F o → P F)
held-ok o (Ok u) P f = f
held-ok o (Err e) P f = tt

pub held-err : (o : Option PrenexFormula) (r : Result Unit CheckError) (P : CheckError → PrenexFormula → Type 0) → ((F : PrenexFormula) → IsHeld F o → IfErr r (λ e. P e F)) → IfErr r (λ e. (F : PrenexFormula) → IsHeld F o → P e F)
held-err o (Ok u) P f = tt
held-err o (Err e) P f = f

-- the formula that is held
pub is-held : (F G : PrenexFormula) (o : Option PrenexFormula) → o ≡ Some G → IsHeld F o → G ≡ F
is-held F G o e h = subst (λ (x : Option PrenexFormula). IsHeld F x) e h

-- a row of at most one
is-zero : (n : ℕ) → (n == 0) ≡ true → n ≡ 0
is-zero n e = grind (arith, nat_tests)

pub first-none : {X : Type 0} (xs : List X) (n : ℕ) → n ≡ length xs → (n == 0) ≡ true → first_in xs ≡ None
first-none [] n l e = refl
first-none (x ∷ xs) n l e =
    let z : n ≡ 0 = is-zero n e in
    absurd (omega (arith, z, l))

pub first-pushed : {X : Type 0} (old mid new : List X) (x : X) → first_in old ≡ None → mid ≡ old → new ≡ mid ++ x ∷ [] → first_in new ≡ Some x
first-pushed [] mid new x z m e = ap first_in (e ∙ ap (λ ys. ys ++ x ∷ []) m)
first-pushed (y ∷ ys) mid new x z m e = cc

-- a new checker of hints, where there was none
pub started-hinted : (keep : Bool) (F : PrenexFormula) (m : Limits) (c : HintChecked) → c ≡ record { formula = begun F; undo = []; limits = m; keeps = keep; steps = 0 } → m ≡ standard → c ≡ new_hinted keep F
started-hinted keep F m c e q = e ∙ ap (λ (l : Limits). let d : HintChecked = record { formula = begun F; undo = []; limits = l; keeps = keep; steps = 0 } in d) q

pub new-hinted-ready : (keep : Bool) (F G : PrenexFormula) (o : Option PrenexFormula) (old new : Option HintChecked) (c : HintChecked) → o ≡ Some G → old ≡ None → new ≡ Some c → c ≡ new_hinted keep G → IsHeld F o → IsReadyHinted keep F old new
new-hinted-ready keep F G o None new c e z q n h = subst (λ (x : PrenexFormula). new ≡ Some (new_hinted keep x)) (is-held F G o e h) (q ∙ ap Some n)
new-hinted-ready keep F G o (Some d) new c e z q n h = cc

-- a new checker of plain steps, where there was none
pub started-plain : (keep : Bool) (F : PrenexFormula) (m : Limits) (c : Checked) → AreAlike F c.formula × (c.undo ≡ []) × (c.limits ≡ m) × (c.keeps ≡ keep) → m ≡ standard → IsNewPlain keep F c
started-plain keep F m c s q = record { alike = s.0; undo = s.1; limits = s.2 ∙ q; keeps = s.3 }

pub new-plain-ready : (keep : Bool) (F G : PrenexFormula) (o : Option PrenexFormula) (old new : Option Checked) (c : Checked) → o ≡ Some G → old ≡ None → new ≡ Some c → IsNewPlain keep G c → IsHeld F o → IsReadyPlain keep F old new
new-plain-ready keep F G o None new c e z q n h =
    subst (λ (x : Option Checked). IsSomeAnd x (IsNewPlain keep F)) (sym q) (subst (λ (x : PrenexFormula). IsNewPlain keep x c) (is-held F G o e h) n)
new-plain-ready keep F G o (Some d) new c e z q n h = cc

pub ended-held : (o : Option PrenexFormula) (r : Result Verified CheckError) (P : Verified → PrenexFormula → Type 0) → ((F : PrenexFormula) → IsHeld F o → IfOk r (λ v. P v F)) → IfOk r (λ v. (F : PrenexFormula) → IsHeld F o → P v F)
ended-held o (Ok v) P f = f
ended-held o (Err e) P f = tt

pub stopped-held : (o : Option PrenexFormula) (r : Result Verified CheckError) (P : CheckError → PrenexFormula → Type 0) → ((F : PrenexFormula) → IsHeld F o → IfErr r (λ e. P e F)) → IfErr r (λ e. (F : PrenexFormula) → IsHeld F o → P e F)
stopped-held o (Ok v) P f = tt
stopped-held o (Err e) P f = f
