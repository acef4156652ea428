use Rattle.std.proofs.Common.{arith}
use Rattle.q_expand.proofs.AllDependents.{own-counted}
use Rattle.q_expand.proofs.expand.clauses_with.Goals as goal

pub returns-clause-number : goal.returns-clause-number
returns-clause-number c =
    let a = own-counted c.args.kernel.now c.args.u c.requires c.sound.ensures in
    let b = rw c.negated.ensures at c.count-2.ensures.held in
    omega (arith, a, b, c.count.ensures.held)
