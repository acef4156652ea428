use Rattle.std.proofs.Common.{arith}
use Rattle.q_kernel.proofs.VariableGroups.{tagged-taken}
use Rattle.q_kernel.proofs.uses.Uses.remove.Goals as goal

pub invariant_of-self : goal.invariant_of-self
invariant_of-self c = tagged-taken c.self.inside.rings c.remove.new.self 0 c.args.var c.self.invariant (omega arith) c.remove.ensures.lists c.remove.ensures.owners
