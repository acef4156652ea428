use Rattle.q_herbrand.specs.Settled.{AreBuilt}
use Rattle.q_herbrand.proofs.settling.build_all.Given as goal

abbrev pub invariant-loop-at : goal.invariant-loop-at
invariant-loop-at l = AreBuilt l.draft l.initial.aig l.aig l.slots l.made l.order l.at
