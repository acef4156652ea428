use Rattle.q_logic.proofs.TargetRuns.{target-run}
use Rattle.q_logic.proofs.SettledResults.{result-formula}
use Rattle.q_logic.proofs.rules.targets_run.Goals as goal

pub returns : goal.returns
returns c = record { run = target-run; formula = result-formula }
