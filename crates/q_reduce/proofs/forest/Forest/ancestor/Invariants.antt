use Rattle.std.proofs.Common.{◌≤◌}
use Rattle.q_reduce.specs.Forests.{depth_of, IsAbove}
use Rattle.q_reduce.proofs.forest.Forest.ancestor.Given as goal

abbrev pub invariant-loop-at : goal.invariant-loop-at
invariant-loop-at l = record {
  above : IsAbove l.self.places l.at l.from;
  level : l.depth ≤ depth_of l.self.places l.from → l.depth ≤ depth_of l.self.places l.at;
}

abbrev pub decreases-loop-at : goal.decreases-loop-at
decreases-loop-at l = depth_of l.self.places l.at
