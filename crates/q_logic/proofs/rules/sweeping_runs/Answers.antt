use Rattle.q_logic.proofs.SettledResults.{sweep-run, sweep-twice}
use Rattle.q_logic.proofs.Measures.{measure-sweep}
use Rattle.q_logic.proofs.rules.sweeping_runs.Goals as goal

pub returns : goal.returns
returns c = record { run = sweep-run; twice = sweep-twice; measure = measure-sweep }
