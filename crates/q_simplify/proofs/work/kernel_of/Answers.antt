use Rattle.q_simplify.proofs.KernelWork.{started}
use Rattle.q_simplify.proofs.work.kernel_of.Goals as goal

pub returns-clause-formula : goal.returns-clause-formula
returns-clause-formula c = started c.args.formula c.start.result c.start.ensures.prefix c.start.ensures.matrix
