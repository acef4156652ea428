use Rattle.q_reduce.specs.Forests.{depth_of, IsAbove}
use Rattle.q_reduce.proofs.forest.Forest.meet.Given as goal

abbrev pub invariant-loop-x : goal.invariant-loop-x
invariant-loop-x l = record {
  first : IsAbove l.self.places l.x l.a;
  second : IsAbove l.self.places l.y l.b;
}

abbrev pub decreases-loop-x : goal.decreases-loop-x
decreases-loop-x l = depth_of l.self.places l.x
