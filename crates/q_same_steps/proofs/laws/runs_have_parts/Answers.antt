use Rattle.q_same_steps.proofs.Composing.{run-cut, run-rest}
use Rattle.q_same_steps.proofs.laws.runs_have_parts.Goals as goal

pub returns : goal.returns
returns c = record { cut = run-cut; rest = run-rest }
