use Rattle.q_logic.proofs.HintedRuns.{hinted-run}
use Rattle.q_logic.proofs.hints.hinted_runs_are_runs.Goals as goal

pub returns : goal.returns
returns c = hinted-run
