use Rattle.q_app.proofs.FaultFree.{completes}
use Rattle.q_app.proofs.laws.completeness.Goals as goal

pub returns : goal.returns
returns c = completes
