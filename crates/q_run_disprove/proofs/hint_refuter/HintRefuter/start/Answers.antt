use Rattle.std.proofs.Common.{ap, refl, subst}
use Rattle.q_logic.specs.Prelude.{NumberedFormula, plain}
use Rattle.q_refutation.specs.Refutations.{IsLost}
use Rattle.q_check.specs.HintChecks.{HintChecked}
use Rattle.q_run_disprove.proofs.HintedSteps.{begun-lost}
use Rattle.q_run_disprove.proofs.hint_refuter.HintRefuter.start.Goals as goal

pub returns-in-Ok : goal.returns-in-Ok
returns-in-Ok c =
    let e = c.in-Ok.ensures.started in
    record {
      under_way = record {
        limits = ap (λ (x : HintChecked). x.limits) e;
        keeps = ap (λ (x : HintChecked). x.keeps) e;
        unlost = λ l. c.requires (begun-lost c.args.formula.now (subst (λ (N : NumberedFormula). IsLost (plain N)) (ap (λ (x : HintChecked). x.formula) e) l));
        counted = ap (λ (x : HintChecked). x.steps) e;
      };
      numbered = ap (λ (x : HintChecked). x.formula) e;
      none = refl;
    }
