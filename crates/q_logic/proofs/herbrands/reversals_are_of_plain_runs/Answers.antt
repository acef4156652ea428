use Rattle.q_logic.proofs.ForthRuns.{reversals-none_extended}
use Rattle.q_logic.proofs.herbrands.reversals_are_of_plain_runs.Goals as goal

pub returns : goal.returns
returns c = reversals-none_extended
