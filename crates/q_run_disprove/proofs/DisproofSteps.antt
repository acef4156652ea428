-- Steps that are made from a formula on, and what the next one or the end tells.
use Rattle.std.proofs.Common.{◌≡◌, ◌⊎◌, ◌+◌, ◌∙◌, refl, sym, ap, subst, arith, ℕ, suc, Bool, true, false, cond, List, [], ◌∷◌, ◌++◌, length, length-append, append_assoc, Some, None, inl, inr}
use Rattle.q_logic.specs.Prelude.{PrenexFormula, AreAlike, ProofStep, add, delete, drop_literal, fresh, remove_variable, after, standard}
use Rattle.q_logic.specs.StepForms.{kind_of}
use Rattle.q_logic.proofs.Common.{alike_swapped, alike_through, alike_after}
use Rattle.q_logic.proofs.Runs.{one_less-IsIn}
use Rattle.q_log.specs.declared.error.LogError.{LogError}
use Rattle.q_log.specs.Logs.{Parsed, behind, onto, finished, stopped}
use Rattle.q_shares.specs.Shares.{Share, count}
use Rattle.q_refutation.specs.Refutations.{IsLost}
use Rattle.q_refutation.specs.SharedRefutations.{AreTakenUnlost, MayBeTaken, NotTaken, RefusedShared, SharedIn}
use Rattle.q_refutation.proofs.FirstEmpty.{alike_lost, alike_may, alike_bad}
use Rattle.q_refutation.proofs.SharedFront.{taken-more, in-behind, refused-front, in-now}
use Rattle.q_command.specs.Logs.{Entry, steps_of, IsOffence}
use Rattle.q_command.specs.Parts.{share_of}
use Rattle.q_command.specs.declared.part.Part.{Part}
use Rattle.q_command.proofs.LogEntries.{steps_of-append}
use Rattle.q_command.proofs.SharedSteps.{judged-valid, judged-cause, count-more}
use Rattle.q_run_disprove.specs.Disproofs.{IsOnLine}
use Rattle.q_run_disprove.specs.SharedDisproofs.{ShareEndFails, ShareLeadsNowhere, ShareLineFails, SaysShared}
use Rattle.q_run_disprove.specs.Notes.{AreLast, AreNotes, IfFalse, IsNoted}
use Rattle.q_run_disprove.specs.Readings.{Convicts, Goes, IsBegun, IsSoFar, SaysAtOnce, SaysNext, SaysWith, TellsAtOnce, counted, is_own, may_bring}
use Rattle.q_run_disprove.specs.declared.disproved.Disproved.{Disproved}
use Rattle.q_run_disprove.specs.declared.disproved.Disproved.TheVariants as outcome
use Rattle.q_run_disprove.specs.declared.notes.Notes.{Notes}
use Rattle.q_run_disprove.specs.declared.refuter.Refuter.{Refuter}
use Rattle.q_run_disprove.specs.declared.verdict.Verdict.{Verdict}
use Rattle.q_run_disprove.proofs.NotedSteps.{notes-more}

-- a deletion brings no clause, and where variables come or go all clauses stay
pub still-unlost : (F : PrenexFormula) (s : ProofStep) → may_bring (kind_of s) ≡ false → IsLost (after F s) → IsLost F
still-unlost F (add p C) k h = cc
still-unlost F (delete p C) k h = one_less-IsIn C F.matrix [] h
still-unlost F (drop_literal l C) k h = cc
still-unlost F (fresh v w) k h = h
still-unlost F (remove_variable v) k h = h

-- the empty clause is not there behind a step
pub unlost-now : (E G : PrenexFormula) (s : ProofStep) → (IsLost E → ⊥) → AreAlike (after E s) G → (may_bring (kind_of s) ≡ false) ⊎ (IsLost G → ⊥) → IsLost G → ⊥
unlost-now E G s u a (inl k) l = u (still-unlost E s k (alike_lost G (after E s) (alike_swapped (after E s) G a) l))
unlost-now E G s u a (inr n) l = n l

-- formulas that are alike take the same steps
alike_taken : (own : Bool) (E G : PrenexFormula) (s : ProofStep) → AreAlike E G → MayBeTaken own standard E s → MayBeTaken own standard G s
alike_taken true E G s a h = alike_may standard E G s a h
alike_taken false E G s a h = judged-valid false standard E G s a h

alike_not_taken : (own : Bool) (E G : PrenexFormula) (s : ProofStep) (c : ℕ) → AreAlike E G → NotTaken own standard E s c → NotTaken own standard G s c
alike_not_taken true E G s c a h = alike_bad standard E G s c a h
alike_not_taken false E G s c a h = judged-cause false standard E G s c a h

module _ (keeps : Bool) (j : Share) (F : PrenexFormula) (es : List Entry) (t : Refuter) (f : IsSoFar keeps j F es t) (u : IsLost t.checker.formula → ⊥) where
  unlost : IsLost f.last → ⊥
  unlost l = u (alike_lost f.last t.checker.formula f.alike l)

  back : AreAlike t.checker.formula f.last
  back = alike_swapped f.last t.checker.formula f.alike

  same-length : (xs : List Entry) → length (steps_of xs) ≡ length xs
  same-length [] = refl
  same-length (x ∷ xs) = ap suc (same-length xs)

  -- the next step is the one behind all of them
  next : t.steps ≡ 0 + length (steps_of es)
  next = omega (arith, same-length es, f.all)

  turn : is_own t ≡ j (0 + length (steps_of es))
  turn = ap (λ (i : Share). i t.steps) f.share ∙ ap j next

  taken : (s : ProofStep) → MayBeTaken (is_own t) standard t.checker.formula s → MayBeTaken (j (0 + length (steps_of es))) standard f.last s
  taken s h = subst (λ (own : Bool). MayBeTaken own standard f.last s) turn (alike_taken (is_own t) t.checker.formula f.last s back h)

  -- one step more
  pub goes-on : (n : ℕ) (s : ProofStep) (new : Refuter) → Goes n s t new → IsSoFar keeps j F (es ++ (n, s) ∷ []) new
  goes-on n s new g = record {
    last = after f.last s;
    share = ap share_of g.part ∙ f.share;
    made = subst (λ (ss : List ProofStep). AreTakenUnlost j standard 0 F ss (after f.last s)) (sym (steps_of-append es ((n, s) ∷ [])))
        (taken-more j standard 0 F f.last (steps_of es) s f.made unlost (taken s g.may));
    alike = alike_through (after f.last s) (after t.checker.formula s) new.checker.formula (alike_after f.last t.checker.formula s f.alike) g.alike;
    all = omega (arith, g.steps, f.all, length-append es ((n, s) ∷ []));
    own = g.own ∙ (ap (counted (is_own t)) f.own ∙ (ap (λ (own : Bool). counted own (count j 0 (steps_of es))) turn
        ∙ (sym (count-more j 0 (steps_of es) s) ∙ ap (count j 0) (sym (steps_of-append es ((n, s) ∷ []))))));
    notes = notes-more keeps j F f.last es n s t.notes new.notes f.made unlost f.notes g.noted;
  }

  on-line : (xs us : List Entry) (line : ℕ) → IsOnLine us 0 line → IsOnLine (xs ++ us) (length xs) line
  on-line [] us line h = h
  on-line (x ∷ xs) us line h = on-line xs us line h

  -- a step that brings the empty clause
  refutes : (n : ℕ) (e : Entry) (us : List Entry) → SaysNext (outcome.False n) t e → SharedIn j standard 0 F (steps_of (es ++ e ∷ us)) n
  refutes n e us (may, lost, k) =
      let at : ℕ = 0 + length (steps_of es) in
      let now : IsLost (after f.last e.1) = alike_lost (after t.checker.formula e.1) (after f.last e.1) (alike_after t.checker.formula f.last e.1 back) lost in
      let one : SharedIn j standard at f.last (e.1 ∷ steps_of us) (cond (j at) (0 + 1) 0) =
      inr (unlost, taken e.1 may, (0, in-now j standard (at + 1) (after f.last e.1) (steps_of us) now, refl)) in
      let front : SharedIn j standard 0 F (steps_of es ++ e.1 ∷ steps_of us) (count j 0 (steps_of es) + cond (j at) (0 + 1) 0) =
      in-behind j standard 0 F f.last (steps_of es) (e.1 ∷ steps_of us) (cond (j at) (0 + 1) 0) f.made one in
      let number : count j 0 (steps_of es) + cond (j at) (0 + 1) 0 ≡ n =
      sym (k ∙ (ap (counted (is_own t)) f.own ∙ (ap (λ (own : Bool). counted own (count j 0 (steps_of es))) turn ∙ add (j at) (count j 0 (steps_of es))))) in
      subst (λ (ss : List ProofStep). SharedIn j standard 0 F ss n) (sym (steps_of-append es (e ∷ us)))
      (subst (λ (i : ℕ). SharedIn j standard 0 F (steps_of es ++ e.1 ∷ steps_of us) i) number front)
    where
      add : (own : Bool) (c : ℕ) → counted own c ≡ c + cond own (0 + 1) 0
      add true c = omega arith
      add false c = omega arith

  -- a step that is not taken
  fails : (n c : ℕ) (e : Entry) (o : Parsed) → SaysNext (outcome.RefusedLine n c) t e → ShareLineFails j n c F (behind es (onto e o))
  fails n c e o (line, bad) =
      let not-now : NotTaken (j (0 + length (steps_of es))) standard f.last e.1 c =
      subst (λ (own : Bool). NotTaken own standard f.last e.1 c) turn (alike_not_taken (is_own t) t.checker.formula f.last e.1 c back bad) in
      let here : RefusedShared j standard (0 + length (steps_of es)) f.last (e.1 ∷ steps_of o.steps) 0 (Some c) =
      (unlost, inl (refl, (c, not-now, refl))) in
      let place : length es ≡ length (steps_of es) + 0 = omega (arith, same-length es) in
      inl (
        length (steps_of es) + 0,
        subst (λ (ss : List ProofStep). RefusedShared j standard 0 F ss (length (steps_of es) + 0) (Some c)) (sym (steps_of-append es (e ∷ o.steps)))
            (refused-front j standard 0 F f.last (steps_of es) (e.1 ∷ steps_of o.steps) 0 (Some c) f.made here),
        subst (λ (i : ℕ). IsOnLine (es ++ e ∷ o.steps) i n) place (on-line es (e ∷ o.steps) n line),
      )

  -- what is said of a step
  next-says : (w : Disproved) (e : Entry) (o : Parsed) → SaysNext w t e → SaysShared j w F (behind es (onto e o))
  next-says (outcome.False n) e o h = refutes n e o.steps h
  next-says (outcome.RefusedLine n c) e o h = fails n c e o h
  next-says outcome.RefusedEnd e o h = absurd h
  next-says (outcome.RefusedInput n c) e o h = h
  next-says outcome.ReadFault e o h = tt
  next-says outcome.NoMemory e o h = tt

  -- the notes of the steps up to one that brings the empty clause
  last-notes : (n : ℕ) (e : Entry) (o : Parsed) (ns : Notes) → SaysNext (outcome.False n) t e → IsNoted e.0 e.1 t.notes ns →
      AreLast keeps j F (behind es (onto e o)) ns
  last-notes n e o ns (may, lost, k) h = record {
    front = es ++ e ∷ [];
    rest = o.steps;
    whole = sym (append_assoc es (e ∷ []) o.steps);
    last = after f.last e.1;
    taken = subst (λ (ss : List ProofStep). AreTakenUnlost j standard 0 F ss (after f.last e.1)) (sym (steps_of-append es (e ∷ [])))
        (taken-more j standard 0 F f.last (steps_of es) e.1 f.made unlost (taken e.1 may));
    lost = alike_lost (after t.checker.formula e.1) (after f.last e.1) (alike_after t.checker.formula f.last e.1 back) lost;
    notes = notes-more keeps j F f.last es e.0 e.1 t.notes ns f.made unlost f.notes h;
  }

  next-notes : (w : Disproved) (e : Entry) (o : Parsed) (ns : Notes) → SaysNext w t e → IfFalse w (IsNoted e.0 e.1 t.notes ns) →
      IfFalse w (AreLast keeps j F (behind es (onto e o)) ns)
  next-notes (outcome.False n) e o ns h i = last-notes n e o ns h i
  next-notes (outcome.RefusedLine n c) e o ns h i = tt
  next-notes outcome.RefusedEnd e o ns h i = tt
  next-notes (outcome.RefusedInput n c) e o ns h i = tt
  next-notes outcome.ReadFault e o ns h i = tt
  next-notes outcome.NoMemory e o ns h i = tt

  pub step-says : (w : Verdict) (e : Entry) (o : Parsed) → Convicts w t e → SaysWith keeps j w F (behind es (onto e o))
  step-says w e o h = record { says = next-says w.outcome e o h.says; notes = next-notes w.outcome e o w.notes h.says h.noted }

  -- no step follows
  nowhere : ShareLeadsNowhere j F (behind es finished)
  nowhere = (
    length (steps_of es) + 0,
    subst (λ (ss : List ProofStep). RefusedShared j standard 0 F ss (length (steps_of es) + 0) None) (sym (steps_of-append es []))
        (refused-front j standard 0 F f.last (steps_of es) [] 0 None f.made (unlost, refl, refl)),
  )

  pub end-says : ShareEndFails j F (behind es finished)
  end-says = (nowhere, refl)

  pub offence-says : (x : LogError) (n c : ℕ) → IsOffence (Some x) n c → ShareLineFails j n c F (behind es (stopped x))
  offence-says x n c o = inr (nowhere, o)

pub begins : (keeps : Bool) (part : Part) (F : PrenexFormula) (t : Refuter) → IsBegun keeps part F t → IsSoFar keeps (share_of part) F [] t
begins keeps part F t b = record {
  last = F;
  share = ap share_of b.part_is;
  made = refl;
  alike = b.alike;
  all = b.none;
  own = b.no_own;
  notes = b.notes;
}

-- before the first step
once-says : (j : Share) (w : Disproved) (F : PrenexFormula) (p : Parsed) → SaysAtOnce F w → SaysShared j w F p
once-says j (outcome.False n) F p (l, z) =
    subst (λ (i : ℕ). SharedIn j standard 0 F (steps_of p.steps) i) (sym z) (in-now j standard 0 F (steps_of p.steps) l)
once-says j (outcome.RefusedLine n c) F p h = absurd h
once-says j outcome.RefusedEnd F p h = absurd h
once-says j (outcome.RefusedInput n c) F p h = h
once-says j outcome.ReadFault F p h = tt
once-says j outcome.NoMemory F p h = tt

once-notes : (keeps : Bool) (j : Share) (w : Disproved) (F : PrenexFormula) (p : Parsed) (ns : Notes) → SaysAtOnce F w →
    IfFalse w (AreNotes keeps F [] ns) → IfFalse w (AreLast keeps j F p ns)
once-notes keeps j (outcome.False n) F p ns (l, z) h = record {
  front = [];
  rest = p.steps;
  whole = refl;
  last = F;
  taken = refl;
  lost = l;
  notes = h;
}
once-notes keeps j (outcome.RefusedLine n c) F p ns a h = tt
once-notes keeps j outcome.RefusedEnd F p ns a h = tt
once-notes keeps j (outcome.RefusedInput n c) F p ns a h = tt
once-notes keeps j outcome.ReadFault F p ns a h = tt
once-notes keeps j outcome.NoMemory F p ns a h = tt

pub at-once : (keeps : Bool) (j : Share) (w : Verdict) (F : PrenexFormula) (p : Parsed) → TellsAtOnce keeps F w → SaysWith keeps j w F p
at-once keeps j w F p h = record { says = once-says j w.outcome F p h.says; notes = once-notes keeps j w.outcome F p w.notes h.says h.notes }
