use Rattle.q_logic.proofs.Common.{test-false}
use Rattle.q_expand.proofs.ConnectedWalks.{held-first, held-second}
use Rattle.q_expand.proofs.dependents.holds_one.Goals as goal

pub returns-then-holds : goal.returns-then-holds
returns-then-holds c = held-first c.args.u c.args.clause.now (c.holds.ensures.0 c.if-holds.true)

pub returns : goal.returns
returns c =
    let e = rw c.negated.ensures at c.holds-2.ensures in
    held-second c.args.u c.args.clause.now c.holds-2.result c.requires (test-false c.holds.result c.holds.ensures c.if-holds.false) e.0 e.1
