use Rattle.q_logic.proofs.Common.{test-false}
use Rattle.q_judge.proofs.ReachWalks.{followed-none, followed-held, followed-widened}
use Rattle.q_judge.proofs.reach.follow.Goals as goal

pub returns-in_default : goal.returns-in_default
returns-in_default c = followed-none c.args.view.now.prefix c.args.u c.args.view.now.slots c.args.at c.args.trail.now c.in_default.ensures

pub returns-then-holds : goal.returns-then-holds
returns-then-holds c = followed-held c.args.view.now.prefix c.args.u c.args.view.now.slots c.args.at c.in-Some.clause.now c.args.trail.now c.in-Some.ensures.0 (c.holds.ensures.0 c.if-holds.true)

pub returns-then-holds-2 : goal.returns-then-holds-2
returns-then-holds-2 c =
    let h = rw c.negated.ensures at c.holds-2.ensures in
    (c.in-Some.clause.now, c.in-Some.ensures.0, test-false c.holds.result c.holds.ensures c.if-holds.false, h.0 c.if-holds-2.true)

pub returns : goal.returns
returns c =
    let h = rw c.negated.ensures at c.holds-2.ensures in
    let w = rw c.scope.ensures at c.in_ok-push_inner.ensures in
    followed-widened c.args.view.now.prefix c.args.u c.args.view.now.slots c.args.at c.in-Some.clause.now c.args.trail.now c.push_inner.new.trail c.in-Some.ensures.0 (test-false c.holds.result c.holds.ensures c.if-holds.false) (test-false c.holds-2.result h c.if-holds-2.false) w
