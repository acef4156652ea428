use Rattle.std.proofs.Common.{ap, arith, refl, subst}
use Rattle.q_logic.specs.Prelude.{NumberedFormula, plain}
use Rattle.q_refutation.specs.Refutations.{IsLost}
use Rattle.q_check.specs.Annotations.{Annotating}
use Rattle.q_run_disprove.proofs.HintedSteps.{begun-lost}
use Rattle.q_run_show.proofs.scribe.Scribe.start.Goals as goal

pub returns-in-Ok-annotator_of-clause-begun : goal.returns-in-Ok-annotator_of-clause-begun
returns-in-Ok-annotator_of-clause-begun c =
    let e = c.in-Ok-annotator_of.ensures.begun in
    record {
      annotator = e;
      under_way = record {
        annotator = c.in-Ok-annotator_of.ensures.under_way;
        named = c.in-Ok-annotator_of.ensures.named;
        unlost = λ l. c.is_lost.ensures.no c.if-is_lost.false
            (begun-lost c.args.formula.now (subst (λ (N : NumberedFormula). IsLost (plain N)) (ap (λ (x : Annotating). x.formula) e) l));
        fewer = omega arith;
      };
      part = refl;
      text = c.in-Ok.ensures;
      written = refl;
    }

pub returns-then-is_lost-clause-lost : goal.returns-then-is_lost-clause-lost
returns-then-is_lost-clause-lost c = (c.is_lost.ensures.yes c.if-is_lost.true, refl, c.in-Ok.ensures)
