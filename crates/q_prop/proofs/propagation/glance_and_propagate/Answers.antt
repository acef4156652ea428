use Rattle.std.proofs.Common.{refl}
use Rattle.q_prop.specs.Slots.{without, filled}
use Rattle.q_prop.proofs.PropagationEnd.{IsReached-trans, IsReached-within}
use Rattle.q_prop.proofs.PropagationSteps.{moved-rows, moved-fewer}
use Rattle.q_prop.proofs.CompleteRoot.{reached_longer, reached_consistent, ready_longer}
use Rattle.q_prop.proofs.propagation.glance_and_propagate.Goals as goal

pub returns-in_err-glance-clause-advanced : goal.returns-in_err-glance-clause-advanced
returns-in_err-glance-clause-advanced c =
    let w = c.args.watched.now in
    record { reached = c.glance.ensures.reached; moved = moved-rows c.args.trail.now w w refl refl c.requires.covered }

pub returns-then-branch-clause-advanced : goal.returns-then-branch-clause-advanced
returns-then-branch-clause-advanced c =
    let w = c.args.watched.now in
    record { reached = c.glance.ensures.reached; moved = moved-rows c.args.trail.now w w refl refl c.requires.covered }

pub propagate-requires-clause-ready : goal.propagate-requires-clause-ready
propagate-requires-clause-ready c =
    let w = c.args.watched.now in
    let s = without w.clauses.slots c.args.skip in
    let reached = c.glance.ensures.reached in
    ready_longer s c.args.from c.args.trail.now c.glance.new.trail w.clauses.pairs c.requires.ready c.requires.from (reached_longer (filled s) c.args.trail.now c.glance.new.trail reached) (reached_consistent (filled s) c.args.trail.now c.glance.new.trail c.requires.ready.consistent reached)

pub returns-clause-advanced : goal.returns-clause-advanced
returns-clause-advanced c =
    let w = c.args.watched.now in
    let x = filled (without w.clauses.slots c.args.skip) in
    let first = c.glance.ensures.reached in
    let a = c.propagate.ensures.advanced in
    record {
      reached = IsReached-trans x c.args.trail.now c.glance.new.trail c.propagate.new.trail first a.reached;
      moved = moved-fewer c.args.trail.now c.glance.new.trail w c.propagate.new.watched (IsReached-within x c.args.trail.now c.glance.new.trail first) a.moved;
    }
