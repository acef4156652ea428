-- Steps of a part, and what is said of one that is not taken.
use Rattle.std.proofs.Common.{◌≡◌, ◌≤◌, ◌∙◌, ◌+◌, ℕ, Bool, true, false, refl, sym, subst, arith}
use Rattle.q_logic.specs.Prelude.{ProofStep}
use Rattle.q_judge.specs.declared.error.CheckError.{CheckError}
use Rattle.q_judge.specs.declared.error.CheckError.TheVariants as check
use Rattle.q_run_disprove.specs.Notes.{IfFalse, IsNoted, ReachEmpty}
use Rattle.q_run_disprove.specs.Readings.{Convicts, IsNotTakenFor, IsReady, SaysNext, counted, is_own, step_refused}
use Rattle.q_run_disprove.specs.declared.disproved.Disproved.{Disproved}
use Rattle.q_run_disprove.specs.declared.disproved.Disproved.TheVariants as outcome
use Rattle.q_run_disprove.specs.declared.refuter.Refuter.{Refuter}
use Rattle.q_run_disprove.specs.declared.verdict.Verdict.{Verdict}

-- of the steps so far some are its own
pub own-fewer : (own : Bool) (n all : ℕ) → n ≤ all → counted own n ≤ all + 1
own-fewer true n all h = omega (arith, h)
own-fewer false n all h = omega (arith, h)

-- what is said of a step that is not taken
refusal-says : (t : Refuter) (line : ℕ) (s : ProofStep) (own : Bool) (x : CheckError) → own ≡ is_own t →
    IsNotTakenFor own t.checker.formula s x → SaysNext (step_refused line x) t (line, s)
refusal-says t line s own (check.Refused n) e h = (refl, subst (λ (b : Bool). IsNotTakenFor b t.checker.formula s (check.Refused n)) e h)
refusal-says t line s own check.NoMemory e h = tt

not-false : (line : ℕ) (x : CheckError) (P : Type 0) → IfFalse (step_refused line x) P
not-false line (check.Refused n) P = tt
not-false line check.NoMemory P = tt

pub refusal-convicts : (t : Refuter) (line : ℕ) (s : ProofStep) (own : Bool) (x : CheckError) (w : Verdict) → w.outcome ≡ step_refused line x → own ≡ is_own t →
    IsNotTakenFor own t.checker.formula s x → Convicts w t (line, s)
refusal-convicts t line s own x w q e h = record {
  says = subst (λ (o : Disproved). SaysNext o t (line, s)) (sym q) (refusal-says t line s own x e h);
  noted = subst (λ (o : Disproved). IfFalse o (IsNoted line s t.notes w.notes)) (sym q) (not-false line x (IsNoted line s t.notes w.notes));
}

pub refusal-ready : (line : ℕ) (x : CheckError) (w : Verdict) → w.outcome ≡ step_refused line x → IsReady w
refusal-ready line x w q = subst (λ (o : Disproved). IfFalse o (ReachEmpty w.notes)) (sym q) (not-false line x (ReachEmpty w.notes))

pub refusal-no_fault : (line : ℕ) (x : CheckError) (w : Verdict) → w.outcome ≡ step_refused line x → w.outcome ≡ outcome.ReadFault → ⊥
refusal-no_fault line (check.Refused n) w q e = let z : step_refused line (check.Refused n) ≡ outcome.ReadFault = sym q ∙ e in cc
refusal-no_fault line check.NoMemory w q e = let z : step_refused line check.NoMemory ≡ outcome.ReadFault = sym q ∙ e in cc
