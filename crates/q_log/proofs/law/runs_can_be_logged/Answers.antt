use Rattle.q_logic.specs.Prelude.{IsBelow, ArePairs}
use Rattle.q_logic.proofs.Common.{AllByRecursion-IsIn}
use Rattle.q_log.proofs.WritableRuns.{run-logged}
use Rattle.q_log.proofs.law.runs_can_be_logged.Goals as goal

pub returns : goal.returns
returns c = λ F G ss p q r. run-logged F G ss p (λ D m. AllByRecursion-IsIn (ArePairs IsBelow) G.matrix D q.ordered m) r
