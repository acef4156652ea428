-- Runs one after the other are a run, and a run can be cut.
use Rattle.std.proofs.Common.{◌≡◌, List, [], ◌∷◌, ◌++◌, refl, sym, subst}
use Rattle.q_logic.specs.declared.limits.Limits.{Limits}
use Rattle.q_logic.specs.Prelude.{PrenexFormula, IsFormula, ProofStep, ValidSteps, after, SameFormula, Run, standard}
use Rattle.q_logic.proofs.Blocks.{Same-sym, Same-itself}
use Rattle.q_logic.proofs.Justified.{ValidSteps-justified}
use Rattle.q_logic.proofs.Soundness.{steps-formula}
use Rattle.q_same_steps.specs.Parts.{Part, AreRuns, steps_in, end_of}
use Rattle.q_same_steps.proofs.SameBlocks.{Same-trans}
use Rattle.q_same_steps.proofs.SameSteps.{same-steps}

pub steps-joined : (m : Limits) (F E L : PrenexFormula) (ss us : List ProofStep) → ValidSteps m F ss E → ValidSteps m E us L →
    ValidSteps m F (ss ++ us) L
steps-joined m F E L [] us e r = subst (λ (H : PrenexFormula). ValidSteps m H us L) (sym e) r
steps-joined m F E L (s ∷ ss) us (v, r) t = (v, steps-joined m (after F s) E L ss us r t)

pub steps-cut : (m : Limits) (F L : PrenexFormula) (ss us : List ProofStep) → ValidSteps m F (ss ++ us) L →
    (E : PrenexFormula) × ValidSteps m F ss E × ValidSteps m E us L
steps-cut m F L [] us r = (F, refl, r)
steps-cut m F L (s ∷ ss) us (v, r) = let i = steps-cut m (after F s) L ss us r in (i.0, (v, i.1), i.2)

pub runs-joined : (F G H : PrenexFormula) (ss us : List ProofStep) → IsFormula F → IsFormula G → Run F ss G → Run G us H → Run F (ss ++ us) H
runs-joined F G H ss us f g r t =
    let e : IsFormula r.last = steps-formula F ss r.last f (ValidSteps-justified standard F ss r.last r.steps) in
    let i = same-steps standard G r.last t.last us g e (Same-sym r.last G r.same) t.steps in
    record {
      last = i.0;
      steps = steps-joined standard F r.last i.0 ss us r.steps i.1;
      same = Same-trans i.0 t.last H (Same-sym t.last i.0 i.2) t.same;
    }

pub run-cut : (F H : PrenexFormula) (ss us : List ProofStep) → IsFormula F → Run F (ss ++ us) H →
    (G : PrenexFormula) × IsFormula G × Run F ss G × Run G us H
run-cut F H ss us f r =
    let c = steps-cut standard F r.last ss us r.steps in (
      c.0,
      steps-formula F ss c.0 f (ValidSteps-justified standard F ss c.0 c.1),
      record { last = c.0; steps = c.1; same = Same-itself c.0 },
      record { last = r.last; steps = c.2; same = r.same },
    )

-- two ways to the same steps
same-end : (m : Limits) (F E L : PrenexFormula) (ss : List ProofStep) → ValidSteps m F ss E → ValidSteps m F ss L → E ≡ L
same-end m F E L [] e l = subst (λ (H : PrenexFormula). H ≡ L) e l
same-end m F E L (s ∷ ss) e l = same-end m (after F s) E L ss e.1 l.1

pub run-rest : (F G H : PrenexFormula) (ss us : List ProofStep) → IsFormula F → IsFormula G → Run F (ss ++ us) H → Run F ss G → Run G us H
run-rest F G H ss us f g r t =
    let c = steps-cut standard F r.last ss us r.steps in
    let e : IsFormula c.0 = steps-formula F ss c.0 f (ValidSteps-justified standard F ss c.0 c.1) in
    let q : t.last ≡ c.0 = same-end standard F t.last c.0 ss t.steps c.1 in
    let s : SameFormula c.0 G = subst (λ (K : PrenexFormula). SameFormula K G) q t.same in
    let i = same-steps standard c.0 G r.last us e g s c.2 in
    record { last = i.0; steps = i.1; same = Same-trans i.0 r.last H (Same-sym r.last i.0 i.2) r.same }

pub parts-run : (F : PrenexFormula) (ps : List Part) → IsFormula F → AreRuns F ps → Run F (steps_in ps) (end_of F ps)
parts-run F [] f a = record { last = F; steps = refl; same = Same-itself F }
parts-run F (p ∷ ps) f a =
    runs-joined F p.behind (end_of p.behind ps) p.steps (steps_in ps) f a.0 a.1 (parts-run p.behind ps a.0 a.2)
