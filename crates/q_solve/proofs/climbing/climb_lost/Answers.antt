use Rattle.std.proofs.Common.{false, sym}
use Rattle.q_solve.specs.Places.{walk_of}
use Rattle.q_solve.proofs.ProgramSteps.{turn-inner, turn-up, turn-lost, turn-next, turn-lost-ready}
use Rattle.q_solve.proofs.climbing.climb_lost.Goals as goal

pub give-requires : goal.give-requires
give-requires c = turn-inner c.loop-last.node c.take_back.new.self c.in-Some.last c.in-Some.ensures

pub returns-then-drop_side-clause-turned : goal.returns-then-drop_side-clause-turned
returns-then-drop_side-clause-turned c =
    turn-next (walk_of c.args.node.now) c.loop-last.node c.take_back.new.self c.give.new.self c.in-Some.last false c.loop-last.invariant.turning c.in-Some.ensures (sym c.if-drop_side.ensures.second) c.in_ok-give.ensures.ok

pub returns-then-drop_side-clause-circuits : goal.returns-then-drop_side-clause-circuits
returns-then-drop_side-clause-circuits c =
    turn-lost-ready c.loop-last.circuits c.drop_side.new.self c.loop-last.node c.take_back.new.self c.give.new.self c.in-Some.last c.in-Some.ensures c.loop-last.invariant.lost c.drop_side.ensures.dropped (sym c.if-drop_side.ensures.second) c.in_ok-give.ensures.ok

pub loop-last-preserved : goal.loop-last-preserved
loop-last-preserved c = record {
  turning = turn-up (walk_of c.args.node.now) c.loop-last.node c.take_back.new.self c.in-Some.last false c.loop-last.invariant.turning c.in-Some.ensures (sym c.if-drop_side.ensures.second);
  lost = turn-lost c.loop-last.circuits c.drop_side.new.self c.loop-last.node c.take_back.new.self c.in-Some.last c.in-Some.ensures c.loop-last.invariant.lost c.drop_side.ensures.dropped (sym c.if-drop_side.ensures.second);
}
