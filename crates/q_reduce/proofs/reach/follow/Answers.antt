use Rattle.q_kernel.specs.Prelude.{slots}
use Rattle.q_logic.proofs.Common.{test-false}
use Rattle.q_reduce.proofs.ReachWalks.{followed-widened}
use Rattle.q_reduce.proofs.reach.follow.Goals as goal

pub returns : goal.returns
returns c =
    let h = rw c.negated.ensures at c.holds-2.ensures in
    followed-widened c.args.kernel.now.prefix c.args.u (slots c.args.kernel.now) c.args.d c.clause_of-clause.result.now c.args.queue.now c.push_inner.new.queue c.clause_of-clause.ensures.clause
    (test-false c.holds.result c.holds.ensures c.if-holds.false) (test-false c.holds-2.result h c.if-holds-2.false) c.in_ok-push_inner.ensures
