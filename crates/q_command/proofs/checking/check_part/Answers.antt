use Rattle.std.proofs.Common.{ap, Err}
use Rattle.q_command.proofs.checking.check_part.Goals as goal

pub returns-clause-fault : goal.returns-clause-fault
returns-clause-fault g c = λ e. c.in-Err.ensures.fault (ap Err e)

pub returns-clause-fault_at : goal.returns-clause-fault_at
returns-clause-fault_at g c = λ e. c.in-Err.ensures.fault_at (ap Err e)
