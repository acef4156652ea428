use Rattle.q_prop.specs.Slots.{without, filled}
use Rattle.q_prop.proofs.PropagationEnd.{IsReached-grown}
use Rattle.q_prop.proofs.glance.look_along.Goals as goal

pub returns-in_err-look-clause-reached : goal.returns-in_err-look-clause-reached
returns-in_err-look-clause-reached c =
    IsReached-grown (filled (without c.args.watched.now.clauses.slots c.args.skip)) c.args.trail.now c.loop-i.trail c.look.new.trail c.loop-i.invariant c.look.ensures.grown

pub returns-then-branch-clause-reached : goal.returns-then-branch-clause-reached
returns-then-branch-clause-reached c =
    IsReached-grown (filled (without c.args.watched.now.clauses.slots c.args.skip)) c.args.trail.now c.loop-i.trail c.look.new.trail c.loop-i.invariant c.look.ensures.grown

pub loop-i-preserved : goal.loop-i-preserved
loop-i-preserved c =
    IsReached-grown (filled (without c.args.watched.now.clauses.slots c.args.skip)) c.args.trail.now c.loop-i.trail c.look.new.trail c.loop-i.invariant c.look.ensures.grown
