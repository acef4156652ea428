use Rattle.std.proofs.Common.{List}
use Rattle.q_logic.specs.Prelude.{IsBelow, ArePairs, ProofStep, Run, swept}
use Rattle.q_logic.proofs.Common.{AllByRecursion-IsIn, sweep-run}
use Rattle.q_log.proofs.WritableRuns.{run-logged}
use Rattle.q_log.proofs.ResultOrder.{swept-order}
use Rattle.q_log.proofs.law.sweeping_can_be_logged.Goals as goal

pub returns : goal.returns
returns c = λ F p l.
    let r : (ss : List ProofStep) × Run F ss (swept F) = sweep-run F p.formula l in
    run-logged F (swept F) r.0 p (swept-order F (λ D m. AllByRecursion-IsIn (ArePairs IsBelow) F.matrix D p.ordered m)) r.1
