use Rattle.std.proofs.Common.{◌-◌, length}
use Rattle.q_aig.specs.Walking.{IsExploring}
use Rattle.q_aig.proofs.cones.explore.Given as goal

abbrev pub invariant-loop-head : goal.invariant-loop-head
invariant-loop-head l = IsExploring l.gates l.lit l.allowed l.marks l.queue l.reached.tail l.reached.found l.head

abbrev pub decreases-loop-head : goal.decreases-loop-head
decreases-loop-head l = length l.initial.queue - l.head
