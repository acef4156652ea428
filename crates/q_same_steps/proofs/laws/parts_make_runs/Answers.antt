use Rattle.q_same_steps.proofs.Composing.{runs-joined, parts-run}
use Rattle.q_same_steps.proofs.laws.parts_make_runs.Goals as goal

pub returns : goal.returns
returns c = record { two = runs-joined; all = parts-run }
