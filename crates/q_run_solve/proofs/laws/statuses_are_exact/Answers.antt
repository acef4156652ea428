use Rattle.q_run_solve.proofs.SolveStatus.{solve-answers}
use Rattle.q_run_solve.proofs.laws.statuses_are_exact.Goals as goal

pub returns : goal.returns
returns c = λ given n budget before after due old new h d. solve-answers given n budget before after due old new h d
