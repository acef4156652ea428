use Rattle.q_logic.proofs.Justified.{Valid-justified}
use Rattle.q_logic.proofs.ForthRuns.{step-total}
use Rattle.q_logic.proofs.herbrands.other_steps_have_reversals.Goals as goal

pub returns : goal.returns
returns c m F s v = step-total F s (Valid-justified m F s v)
