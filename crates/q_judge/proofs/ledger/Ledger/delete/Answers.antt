use Rattle.std.proofs.Common.{arith}
use Rattle.q_judge.proofs.RegionSeparation.{all-left}
use Rattle.q_judge.proofs.KeptWalks.{walks-left}
use Rattle.q_judge.proofs.SlotFormula.{counted-left}
use Rattle.q_judge.proofs.SlotCollections.{left-sizes}
use Rattle.q_judge.proofs.ledger.Ledger.delete.Goals as goal

pub overflow_sub-self : goal.overflow_sub-self
overflow_sub-self c =
    let h = rw (← c.self.view_is) at c.requires in
    let z = left-sizes c.self.inside.store c.args.at c.args.clause.now h in
    omega (arith, z.0, c.self.invariant.0.clauses_are)

pub overflow_sub-self-2 : goal.overflow_sub-self-2
overflow_sub-self-2 c =
    let h = rw (← c.self.view_is) at c.requires in
    let z = left-sizes c.self.inside.store c.args.at c.args.clause.now h in
    omega (arith, z.1, c.self.invariant.0.lits_are)

pub invariant_of-self : goal.invariant_of-self
invariant_of-self c =
    let i = c.self.inside in
    let h = rw (← c.self.view_is) at c.requires in
    rw c.delete.ensures (
      counted-left i.scope i.store c.args.at c.args.clause.now i.clauses i.lits c.self.invariant.0 h,
      all-left i.scope i.recent i.store c.args.at c.self.invariant.1,
      walks-left i.scope i.walks i.store c.args.at c.self.invariant.2,
    )
