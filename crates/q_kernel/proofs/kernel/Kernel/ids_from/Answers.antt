use Rattle.q_kernel.specs.Kernels.{slots}
use Rattle.q_kernel.proofs.LiveIds.{since-live, since-above, since-all, since-once}
use Rattle.q_kernel.proofs.kernel.Kernel.ids_from.Goals as goal

pub returns-clause-live : goal.returns-clause-live
returns-clause-live c = since-live (slots c.args.self.now) c.args.from

pub returns-clause-above : goal.returns-clause-above
returns-clause-above c = since-above (slots c.args.self.now) c.args.from

pub returns-clause-all : goal.returns-clause-all
returns-clause-all c d h i = since-all (slots c.args.self.now) c.args.from d h i

pub returns-clause-once : goal.returns-clause-once
returns-clause-once c = since-once (slots c.args.self.now) c.args.from
