use Rattle.std.proofs.Common.{arith}
use Rattle.q_kernel.proofs.kernel.Kernel.ids.Goals as goal

pub returns-clause-all : goal.returns-clause-all
returns-clause-all c d i = c.ids_from.ensures.all d (omega arith) i
