use Rattle.std.proofs.Common.{true, sym, ◌∙◌}
use Rattle.q_solve.specs.Places.{walk_of}
use Rattle.q_solve.proofs.ProgramSteps.{turn-inner, turn-can, turn-up, turn-won, turn-next, turn-won-ready}
use Rattle.q_solve.proofs.climbing.climb_won.Goals as goal

pub pass-requires : goal.pass-requires
pass-requires c = turn-can c.loop-last.circuits c.loop-last.node c.take_back.new.self c.in-Some.last c.in-Some.ensures c.loop-last.invariant.won

pub give-requires : goal.give-requires
give-requires c = turn-inner c.loop-last.node c.take_back.new.self c.in-Some.last c.in-Some.ensures

pub returns-then-branch-clause-turned : goal.returns-then-branch-clause-turned
returns-then-branch-clause-turned c =
    turn-next (walk_of c.args.node.now) c.loop-last.node c.take_back.new.self c.give.new.self c.in-Some.last true c.loop-last.invariant.turning c.in-Some.ensures (sym c.in_ok-pass.ensures.second ∙ c.if-branch.true) c.in_ok-give.ensures.ok

pub returns-then-branch-clause-circuits : goal.returns-then-branch-clause-circuits
returns-then-branch-clause-circuits c =
    turn-won-ready c.loop-last.circuits c.pass.new.self c.loop-last.node c.take_back.new.self c.give.new.self c.in-Some.last c.in-Some.ensures c.loop-last.invariant.won c.in_ok-pass.ensures.passed (sym c.in_ok-pass.ensures.second ∙ c.if-branch.true) c.in_ok-give.ensures.ok

pub loop-last-preserved : goal.loop-last-preserved
loop-last-preserved c = record {
  turning = turn-up (walk_of c.args.node.now) c.loop-last.node c.take_back.new.self c.in-Some.last true c.loop-last.invariant.turning c.in-Some.ensures (sym c.in_ok-pass.ensures.second ∙ c.if-branch.false);
  won = turn-won c.loop-last.circuits c.pass.new.self c.loop-last.node c.take_back.new.self c.in-Some.last c.in-Some.ensures c.loop-last.invariant.won c.in_ok-pass.ensures.passed (sym c.in_ok-pass.ensures.second ∙ c.if-branch.false);
}

pub returns-then-branch-clause-same : goal.returns-then-branch-clause-same
returns-then-branch-clause-same c = (turn-next (walk_of c.args.node.now) c.loop-last.node c.take_back.new.self c.give.new.self c.in-Some.last true c.loop-last.invariant.turning c.in-Some.ensures (sym c.in_ok-pass.ensures.second ∙ c.if-branch.true) c.in_ok-give.ensures.ok).same
