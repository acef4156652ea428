use Rattle.q_aig.specs.Walking.{AreLeft}
use Rattle.q_aig.proofs.cones.clear.Given as goal

abbrev pub invariant-loop-j : goal.invariant-loop-j
invariant-loop-j l = AreLeft l.marks l.queue l.tail l.j
