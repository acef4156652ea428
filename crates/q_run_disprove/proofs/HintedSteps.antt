-- Steps with proof parts that are made from a formula on, and what the next one or the end tells.
use Rattle.std.proofs.Common.{◌≡◌, ◌↔◌, ◌==◌, ◌+◌, ◌∙◌, refl, sym, ap, subst, arith, ℕ, zero, suc, true, List, [], ◌∷◌, ◌++◌, length, length-append, slice_get, Option, Some, None, inl, inr}
use Rattle.q_logic.specs.Prelude.{Clause, HintedCause, HintedValid, IsIn, Matrix, PrenexFormula, NumberedFormula, ProofPart, ProofStep, Hinted, add, delete, drop_literal, fresh, remove_variable, begun, hinted_after, plain, standard, after, without}
use Rattle.std.proofs.lemmas.Bool.Decides.{nat_tests}
use Rattle.q_logic.specs.declared.limits.Limits.{Limits}
use Rattle.q_logic.specs.declared.steps.Kind.TheVariants.{Add, Delete, Drop}
use Rattle.q_logic.specs.StepForms.{IsStep, kind_of, literals_of}
use Rattle.q_logic.proofs.Common.{alike_swapped}
use Rattle.q_logic.proofs.Runs.{one_less-IsIn}
use Rattle.q_log.specs.declared.error.LogError.{LogError}
use Rattle.q_judge.specs.declared.error.CheckError.{CheckError}
use Rattle.q_judge.specs.declared.error.CheckError.TheVariants as check
use Rattle.q_refutation.specs.Refutations.{IsLost}
use Rattle.q_check.specs.HintChecks.{IsHintRefusal}
use Rattle.q_shown.specs.HintedRefutations.{AreHintedMadeUnlost, HintedMayBeMade, HintedRefusedAt, HintedRefutedIn}
use Rattle.q_refutation.proofs.FirstEmpty.{alike_lost}
use Rattle.q_shown.proofs.HintedFront.{hinted-bad_step, hinted-may_step, hinted-more, hinted-refused_behind, hinted-refuted_behind, hinted-refuted_now}
use Rattle.q_shown.proofs.HintedRefuting.{begun-alike, hinted-leaves}
use Rattle.q_command.specs.Logs.{HintedEntry, hinted_of, stripped}
use Rattle.q_command.proofs.LogEntries.{hinted_of-append, hinted_of-length}
use Rattle.q_run_disprove.specs.Disproofs.{IsOnLine}
use Rattle.q_run_disprove.specs.HintedDisproofs.{HintedLeadsNowhere, HintedSays, HintedStepFails}
use Rattle.q_run_disprove.specs.HintedReadings.{BringsEmpty, HintConvicts, HintGoes, IsHintBegun, IsHintSoFar, IsHintedBadFor}
use Rattle.q_run_disprove.specs.Readings.{step_refused}
use Rattle.q_run_disprove.specs.declared.disproved.Disproved.{Disproved}
use Rattle.q_run_disprove.specs.declared.disproved.Disproved.TheVariants as outcome
use Rattle.q_run_disprove.specs.declared.hint_refuter.HintRefuter.{HintRefuter}

-- a step that brings the empty clause, and one that does not
brought : (F : PrenexFormula) (s : ProofStep) → BringsEmpty s → IsLost (after F s)
brought F (add p C) e = inl (sym e)
brought F (delete p C) e = absurd e
brought F (drop_literal l C) e = inl (sym e)
brought F (fresh v w) e = absurd e
brought F (remove_variable v) e = absurd e

not-brought : (F : PrenexFormula) (s : ProofStep) → (BringsEmpty s → ⊥) → (IsLost F → ⊥) → IsLost (after F s) → ⊥
not-brought F (add p C) n u (inl e) = n (sym e)
not-brought F (add p C) n u (inr l) = u l
not-brought F (delete p C) n u l = u (one_less-IsIn C F.matrix [] l)
not-brought F (drop_literal l C) n u (inl e) = n (sym e)
not-brought F (drop_literal l C) n u (inr i) = u (one_less-IsIn C F.matrix [] i)
not-brought F (fresh v w) n u l = u l
not-brought F (remove_variable v) n u l = u l

pub hinted-lost : (N : NumberedFormula) (s : ProofStep) (x : ProofPart) → HintedMayBeMade standard N s x → BringsEmpty s → IsLost (plain (hinted_after N s x))
hinted-lost N s x may b = alike_lost (after (plain N) s) (plain (hinted_after N s x)) (hinted-leaves standard N s x may) (brought (plain N) s b)

pub hinted-unlost : (N M : NumberedFormula) (s : ProofStep) (x : ProofPart) → (IsLost (plain N) → ⊥) → HintedMayBeMade standard N s x →
    M ≡ hinted_after N s x → (BringsEmpty s → ⊥) → IsLost (plain M) → ⊥
hinted-unlost N M s x u may e n l =
    not-brought (plain N) s n u (alike_lost (plain (hinted_after N s x)) (after (plain N) s)
    (alike_swapped (after (plain N) s) (plain (hinted_after N s x)) (hinted-leaves standard N s x may))
    (subst (λ (G : NumberedFormula). IsLost (plain G)) e l))

-- told by its literals
pub brings-add : (s : ProofStep) → IsStep s → kind_of s ≡ Add → (literals_of s ≡ []) ↔ BringsEmpty s
brings-add (add None C) i k = ((λ e. e), (λ e. e))
brings-add (add (Some l) C) i k = ((λ e. cc), (λ e. absurd (subst (λ (D : Clause). IsIn l D) e i.1)))
brings-add (delete p C) i k = cc
brings-add (drop_literal l C) i k = cc
brings-add (fresh v w) i k = cc
brings-add (remove_variable v) i k = cc

pub brings-drop : (s : ProofStep) → kind_of s ≡ Drop → (length (literals_of s) ≡ 1) ↔ BringsEmpty s
brings-drop (add p C) k = cc
brings-drop (delete p C) k = cc
brings-drop (drop_literal l C) k = ((λ e. none (without l C) e), (λ e. ap (λ (D : Clause). suc (length D)) e))
  where
    none : (D : Clause) → suc (length D) ≡ 1 → D ≡ []
    none [] e = refl
    none (x ∷ D) e = absurd (omega (arith, e))
brings-drop (fresh v w) k = cc
brings-drop (remove_variable v) k = cc

pub brings-none : (s : ProofStep) → (kind_of s ≡ Add → ⊥) → (kind_of s ≡ Drop → ⊥) → BringsEmpty s → ⊥
brings-none (add p C) a d b = a refl
brings-none (delete p C) a d b = b
brings-none (drop_literal l C) a d b = d refl
brings-none (fresh v w) a d b = b
brings-none (remove_variable v) a d b = b

-- the empty clause by its place
pub lost-at : (X : Matrix) → IsIn [] X → (k : ℕ) × (slice_get X k ≡ Some [])
lost-at [] m = absurd m
lost-at (C ∷ X) (inl e) = (0, ap Some (sym e))
lost-at (C ∷ X) (inr m) = let i = lost-at X m in (suc i.0, i.1)

pub at-lost : (X : Matrix) (k : ℕ) (C : Clause) → slice_get X k ≡ Some C → length C ≡ 0 → IsIn [] X
at-lost [] k C e z = cc
at-lost (D ∷ X) zero [] e z = inl (let f : D ≡ [] = cc in sym f)
at-lost (D ∷ X) zero (l ∷ C) e z = absurd (omega (arith, z))
at-lost (D ∷ X) (suc k) C e z = inr (at-lost X k C e z)

pub none-in : (C : Clause) → (length C == 0) ≡ true → length C ≡ 0
none-in C e = grind (arith, nat_tests)

-- a step that is judged by its proof part
pub hint-may : (l : Limits) (N : NumberedFormula) (s : ProofStep) (x : ProofPart) → l ≡ standard → (kind_of s ≡ Delete → ⊥) → HintedValid l N s x →
    HintedMayBeMade standard N s x
hint-may l N s x e k v = hinted-may_step standard N s x k (subst (λ (m : Limits). HintedValid m N s x) e v)

pub hint-bad : (l : Limits) (N : NumberedFormula) (s : ProofStep) (x : ProofPart) → l ≡ standard → (kind_of s ≡ Delete → ⊥) → (e : CheckError) →
    IsHintRefusal l N s x e → IsHintedBadFor N s x e
hint-bad l N s x q k (check.Refused n) c = hinted-bad_step standard N s x n k (subst (λ (m : Limits). HintedCause m N s x n) q c)
hint-bad l N s x q k check.NoMemory c = tt

-- what is said of a step that is not taken
pub hint-refused : (t : HintRefuter) (line : ℕ) (s : ProofStep) (x : ProofPart) (e : CheckError) (o : Disproved) → o ≡ step_refused line e →
    IsHintedBadFor t.checker.formula s x e → HintConvicts o t (line, s) x
hint-refused t line s x (check.Refused n) o q h = subst (λ (y : Disproved). HintConvicts y t (line, s) x) (sym q) (refl, h)
hint-refused t line s x check.NoMemory o q h = subst (λ (y : Disproved). HintConvicts y t (line, s) x) (sym q) tt

pub hint-no_fault : (line : ℕ) (e : CheckError) (o : Disproved) → o ≡ step_refused line e → o ≡ outcome.ReadFault → ⊥
hint-no_fault line (check.Refused n) o q r = let z : step_refused line (check.Refused n) ≡ outcome.ReadFault = sym q ∙ r in cc
hint-no_fault line check.NoMemory o q r = let z : step_refused line check.NoMemory ≡ outcome.ReadFault = sym q ∙ r in cc

-- the empty clause is in a formula where it is in the numbered one
pub begun-lost : (F : PrenexFormula) → IsLost (plain (begun F)) → IsLost F
begun-lost F l = alike_lost (plain (begun F)) F (begun-alike F) l

pub lost-begun : (F : PrenexFormula) → IsLost F → IsLost (plain (begun F))
lost-begun F l = alike_lost F (plain (begun F)) (alike_swapped (plain (begun F)) F (begun-alike F)) l

pub hint-begins : (F : PrenexFormula) (t : HintRefuter) → IsHintBegun F t → IsHintSoFar F [] t
hint-begins F t b = record { made = sym b.numbered; all = b.none }

-- an entry on its line
on-line : (hs us : List HintedEntry) (h : HintedEntry) (line : ℕ) → line ≡ h.0 → IsOnLine (stripped (hs ++ h ∷ us)) (length hs) line
on-line [] us h line e = e
on-line (x ∷ hs) us h line e = on-line hs us h line e

module _ (F : PrenexFormula) (hs : List HintedEntry) (t : HintRefuter) (f : IsHintSoFar F hs t) (u : IsLost (plain t.checker.formula) → ⊥) where
  -- one step more
  pub hint-goes_on : (n : ℕ) (s : ProofStep) (x : ProofPart) (new : HintRefuter) → HintGoes s x t new →
      IsHintSoFar F (hs ++ (n, record { step = s; proof = x }) ∷ []) new
  hint-goes_on n s x new g =
      let h : Hinted = record { step = s; proof = x } in
      record {
        made = subst (λ (gs : List Hinted). AreHintedMadeUnlost standard (begun F) gs new.checker.formula) (sym (hinted_of-append hs ((n, h) ∷ [])))
            (subst (λ (G : NumberedFormula). AreHintedMadeUnlost standard (begun F) (hinted_of hs ++ h ∷ []) G) (sym g.formula)
            (hinted-more standard (begun F) t.checker.formula (hinted_of hs) h f.made u g.may));
        all = omega (arith, g.steps, f.all, length-append hs ((n, h) ∷ []));
      }

  module _ (h : HintedEntry) (us : List HintedEntry) (r : Option LogError) where
    -- a step that brings the empty clause
    hint-refutes : (n : ℕ) → HintConvicts (outcome.False n) t (h.0, h.1.step) h.1.proof → HintedRefutedIn standard (begun F) (hinted_of (hs ++ h ∷ us)) n
    hint-refutes n (may, lost, k) =
        let one : HintedRefutedIn standard t.checker.formula (h.1 ∷ hinted_of us) 1 =
        inr (u, may, (0, hinted-refuted_now standard (hinted_after t.checker.formula h.1.step h.1.proof) (hinted_of us) lost, refl)) in
        let all : HintedRefutedIn standard (begun F) (hinted_of hs ++ h.1 ∷ hinted_of us) (length (hinted_of hs) + 1) =
        hinted-refuted_behind standard (begun F) t.checker.formula (hinted_of hs) (h.1 ∷ hinted_of us) 1 f.made one in
        let number : length (hinted_of hs) + 1 ≡ n = omega (arith, hinted_of-length hs, f.all, k) in
        subst (λ (gs : List Hinted). HintedRefutedIn standard (begun F) gs n) (sym (hinted_of-append hs (h ∷ us)))
        (subst (λ (i : ℕ). HintedRefutedIn standard (begun F) (hinted_of hs ++ h.1 ∷ hinted_of us) i) number all)

    -- a step that is not taken
    hint-fails : (n c : ℕ) → HintConvicts (outcome.RefusedLine n c) t (h.0, h.1.step) h.1.proof → HintedStepFails n c F (hs ++ h ∷ us)
    hint-fails n c (line, bad) =
        let here : HintedRefusedAt standard t.checker.formula (h.1 ∷ hinted_of us) 0 (Some c) = (u, inl (refl, (c, bad, refl))) in
        let place : length hs ≡ length (hinted_of hs) + 0 = omega (arith, hinted_of-length hs) in (
          length (hinted_of hs) + 0,
          subst (λ (gs : List Hinted). HintedRefusedAt standard (begun F) gs (length (hinted_of hs) + 0) (Some c)) (sym (hinted_of-append hs (h ∷ us)))
              (hinted-refused_behind standard (begun F) t.checker.formula (hinted_of hs) (h.1 ∷ hinted_of us) 0 (Some c) f.made here),
          subst (λ (i : ℕ). IsOnLine (stripped (hs ++ h ∷ us)) i n) place (on-line hs us h n line),
        )

    -- what is said of a step
    pub hint-says : (o : Disproved) → HintConvicts o t (h.0, h.1.step) h.1.proof → HintedSays o F (hs ++ h ∷ us) r
    hint-says (outcome.False n) c = hint-refutes n c
    hint-says (outcome.RefusedLine n k) c = inl (hint-fails n k c)
    hint-says outcome.RefusedEnd c = absurd c
    hint-says (outcome.RefusedInput n k) c = c
    hint-says outcome.ReadFault c = tt
    hint-says outcome.NoMemory c = tt

  -- no step follows
  pub hint-nowhere : HintedLeadsNowhere F (hs ++ [])
  hint-nowhere = (
    length (hinted_of hs) + 0,
    subst (λ (gs : List Hinted). HintedRefusedAt standard (begun F) gs (length (hinted_of hs) + 0) None) (sym (hinted_of-append hs []))
        (hinted-refused_behind standard (begun F) t.checker.formula (hinted_of hs) [] 0 None f.made (u, refl, refl)),
  )

-- nor a first one
pub hint-none : (F : PrenexFormula) → (IsLost F → ⊥) → HintedLeadsNowhere F []
hint-none F u = (0, ((λ l. u (begun-lost F l)), refl, refl))
