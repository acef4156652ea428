use Rattle.q_kernel.proofs.KernelSizes.{slot-live, clause_at-slot}
use Rattle.q_kernel.proofs.kernel.Kernel.lits.Goals as goal

pub lits-requires : goal.lits-requires
lits-requires c =
    let r = rw (← c.self.view_is) at c.requires in
    (r.0, clause_at-slot c.self.inside.arena c.args.id r.0 r.1)

pub returns-clause-clause : goal.returns-clause-clause
returns-clause-clause c = rw (← c.self.view_is) (slot-live c.self.inside.arena c.args.id c.lits.result.now c.lits.ensures.clause)
