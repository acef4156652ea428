use Rattle.std.proofs.Common.{true, length}
use Rattle.q_search.proofs.NodeSteps.{IsTurning}
use Rattle.q_solve.specs.Places.{walk_of}
use Rattle.q_solve.specs.Waiting.{IsWonAt}
use Rattle.q_solve.proofs.climbing.climb_won.Given as goal

abbrev pub invariant-loop-last : goal.invariant-loop-last
invariant-loop-last l = record {
  turning : IsTurning (walk_of l.fn.node) (walk_of l.node) true;
  won : IsWonAt l.circuits (walk_of l.node);
}

abbrev pub decreases-loop-last : goal.decreases-loop-last
decreases-loop-last l = length l.node.path
