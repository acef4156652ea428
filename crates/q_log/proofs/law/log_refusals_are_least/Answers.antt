use Rattle.q_log.proofs.StepEnds.{are-least}
use Rattle.q_log.proofs.law.log_refusals_are_least.Goals as goal

pub returns : goal.returns
returns c = are-least
