use Rattle.std.proofs.Common.{List}
use Rattle.q_logic.specs.Prelude.{IsBelow, ArePairs, ProofStep, Run, live, formula_of, result_of}
use Rattle.q_logic.proofs.Common.{AllByRecursion-IsIn}
use Rattle.q_logic.proofs.TargetRuns.{target-run}
use Rattle.q_log.proofs.WritableRuns.{run-logged}
use Rattle.q_log.proofs.ResultOrder.{result-order}
use Rattle.q_log.proofs.law.targets_can_be_logged.Goals as goal

pub returns : goal.returns
returns c = λ B P N t p l h.
    let r : (ss : List ProofStep) × Run (formula_of P (live N)) ss (result_of P N t) = target-run B P N t p.formula l h in
    run-logged (formula_of P (live N)) (result_of P N t) r.0 p (result-order P N t (λ D m. AllByRecursion-IsIn (ArePairs IsBelow) (live N) D p.ordered m)) r.1
