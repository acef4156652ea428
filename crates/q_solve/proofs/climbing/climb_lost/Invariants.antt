use Rattle.std.proofs.Common.{false, length}
use Rattle.q_search.proofs.NodeSteps.{IsTurning}
use Rattle.q_solve.specs.Places.{walk_of}
use Rattle.q_solve.specs.Waiting.{IsLostAt}
use Rattle.q_solve.proofs.climbing.climb_lost.Given as goal

abbrev pub invariant-loop-last : goal.invariant-loop-last
invariant-loop-last l = record {
  turning : IsTurning (walk_of l.fn.node) (walk_of l.node) false;
  lost : IsLostAt l.circuits (walk_of l.node);
}

abbrev pub decreases-loop-last : goal.decreases-loop-last
decreases-loop-last l = length l.node.path
