use Rattle.q_app.proofs.CircuitCommands as law
use Rattle.q_app.proofs.laws.further.Goals as goal

pub returns : goal.returns
returns c = law.further
