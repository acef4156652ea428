-- Steps that are made one after the other, and the first that can't be made.
use Rattle.std.proofs.Common.{◌≡◌, ◌+◌, ◌∙◌, refl, sym, ap, subst, arith, inl, inr, ℕ, false, List, [], ◌∷◌, ◌++◌, length-append, Option, None}
use Rattle.q_logic.specs.Prelude.{PrenexFormula, AreAlike, ProofStep, after, standard}
use Rattle.q_logic.proofs.Common.{alike_swapped, alike_through, alike_after}
use Rattle.q_same_steps.specs.Making.{Applies, Unfit, made}
use Rattle.q_logic.specs.declared.limits.Limits.{Limits}
use Rattle.q_judge.specs.declared.error.CheckError.{CheckError}
use Rattle.q_judge.specs.declared.error.CheckError.TheVariants as check
use Rattle.q_check.specs.Replays.{IsUnfitFor}
use Rattle.q_log.specs.declared.error.LogError.{LogError}
use Rattle.q_command.specs.Logs.{Entry, steps_of, IsOffence}
use Rattle.q_command.proofs.LogEntries.{steps_of-append}
use Rattle.q_command.proofs.PartStatus.{right-or-wrong}
use Rattle.q_command.proofs.SharedSteps.{judged-valid, judged-cause}
use Rattle.q_run_apply.specs.Applications.{AreMade, IsFirstUnfit}
use Rattle.q_run_apply.specs.Readings.{Convicts, Goes, IsBegun, IsSoFar, IsUnderWay, step_refused}
use Rattle.q_run_apply.specs.declared.applied.Applied.{Applied}
use Rattle.q_run_apply.specs.declared.maker.Maker.{Maker}

-- one step more
made-more : (F : PrenexFormula) (ss : List ProofStep) (s : ProofStep) → made F (ss ++ s ∷ []) ≡ after (made F ss) s
made-more F [] s = refl
made-more F (t ∷ ss) s = made-more (after F t) ss s

are-made-more : (F : PrenexFormula) (ss : List ProofStep) (s : ProofStep) → AreMade F ss → Applies standard (made F ss) s → AreMade F (ss ++ s ∷ [])
are-made-more F [] s h a = (a, tt)
are-made-more F (t ∷ ss) s h a = (h.0, are-made-more (after F t) ss s h.1 a)

pub begins : (F : PrenexFormula) (t : Maker) → IsBegun F t → IsSoFar F [] t
begins F t b = record { steps = tt; alike = b.alike; count = b.none }

module _ (F : PrenexFormula) (es : List Entry) (t : Maker) (f : IsSoFar F es t) where
  back : AreAlike t.checker.formula (made F (steps_of es))
  back = alike_swapped (made F (steps_of es)) t.checker.formula f.alike

  pub goes-on : (e : Entry) (new : Maker) → Goes e.1 t new → IsSoFar F (es ++ e ∷ []) new
  goes-on e new g =
      let ss : steps_of (es ++ e ∷ []) ≡ steps_of es ++ e.1 ∷ [] = steps_of-append es (e ∷ []) in
      record {
        steps = subst (λ (xs : List ProofStep). AreMade F xs) (sym ss)
            (are-made-more F (steps_of es) e.1 f.steps (judged-valid false standard t.checker.formula (made F (steps_of es)) e.1 back g.fits));
        alike = subst (λ (G : PrenexFormula). AreAlike G new.checker.formula) (sym (ap (made F) ss ∙ made-more F (steps_of es) e.1))
            (alike_through (after (made F (steps_of es)) e.1) (after t.checker.formula e.1) new.checker.formula (alike_after (made F (steps_of es)) t.checker.formula e.1 f.alike) g.alike);
        count = omega (arith, g.steps, f.count, length-append es (e ∷ []));
      }

  pub unfit-there : (s : ProofStep) (n : ℕ) → Unfit standard t.checker.formula s n → Unfit standard (made F (steps_of es)) s n
  unfit-there s n u = judged-cause false standard t.checker.formula (made F (steps_of es)) s n back u

-- what is wrong behind steps that are made is what is wrong first
pub unfit-behind : (F : PrenexFormula) (es us : List Entry) (o : Option LogError) (line cause : ℕ) → AreMade F (steps_of es) → IsFirstUnfit (made F (steps_of es)) us o line cause → IsFirstUnfit F (es ++ us) o line cause
unfit-behind F [] us o line cause h u = u
unfit-behind F (e ∷ es) us o line cause h u = inr (h.0, unfit-behind (after F e.1) es us o line cause h.1 u)

-- steps that can be made have nothing wrong before their end
pub made-or-unfit : (F : PrenexFormula) (es : List Entry) (o : Option LogError) (line cause : ℕ) → o ≡ None → AreMade F (steps_of es) → IsFirstUnfit F es o line cause → ⊥
made-or-unfit F [] o line cause e h u = subst (λ (x : Option LogError). IsOffence x line cause) e u
made-or-unfit F (e ∷ es) o line cause n h (inl (l, u)) = right-or-wrong false standard F e.1 cause h.0 u
made-or-unfit F (e ∷ es) o line cause n h (inr (a, u)) = made-or-unfit (after F e.1) es o line cause n h.1 u

-- what the checker says of a step that it made, and of one that it did not
pub passed : (s : ProofStep) (old new : Maker) → IsUnderWay old → Applies old.checker.limits old.checker.formula s → AreAlike (after old.checker.formula s) new.checker.formula → (new.checker.limits ≡ old.checker.limits) × (new.checker.keeps ≡ old.checker.keeps) × (new.checker.undo ≡ old.checker.undo) → new.steps ≡ old.steps + 1 → Goes s old new
passed s old new u f a k n = record {
  fits = subst (λ (m : Limits). Applies m old.checker.formula s) u.limits f;
  alike = a;
  under_way = record { limits = k.0 ∙ u.limits; keeps = k.1 ∙ u.keeps };
  steps = n;
}

pub convicted : (t : Maker) (line : ℕ) (s : ProofStep) (e : CheckError) (w : Applied) → IsUnderWay t → w ≡ step_refused line e → IsUnfitFor t.checker.limits t.checker.formula s e → Convicts w t.checker.formula (line, s)
convicted t line s (check.Refused c) w u q h =
    subst (λ (x : Applied). Convicts x t.checker.formula (line, s)) (sym q) (refl, subst (λ (m : Limits). Unfit m t.checker.formula s c) u.limits h)
convicted t line s check.NoMemory w u q h = subst (λ (x : Applied). Convicts x t.checker.formula (line, s)) (sym q) tt
