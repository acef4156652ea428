use Rattle.q_prop.specs.Slots.{without, filled}
use Rattle.q_prop.proofs.PropagationEnd.{IsReached-trans}
use Rattle.q_prop.proofs.glance.glance.Goals as goal

pub returns-in_err-look_along-clause-reached : goal.returns-in_err-look_along-clause-reached
returns-in_err-look_along-clause-reached c =
    IsReached-trans (filled (without c.args.watched.now.clauses.slots c.args.skip)) c.args.trail.now c.loop-head.trail c.look_along.new.trail c.loop-head.invariant c.look_along.ensures.reached

pub returns-then-branch-clause-reached : goal.returns-then-branch-clause-reached
returns-then-branch-clause-reached c =
    IsReached-trans (filled (without c.args.watched.now.clauses.slots c.args.skip)) c.args.trail.now c.loop-head.trail c.look_along.new.trail c.loop-head.invariant c.look_along.ensures.reached

pub loop-head-preserved : goal.loop-head-preserved
loop-head-preserved c =
    IsReached-trans (filled (without c.args.watched.now.clauses.slots c.args.skip)) c.args.trail.now c.loop-head.trail c.look_along.new.trail c.loop-head.invariant c.look_along.ensures.reached
