use Rattle.q_prop.proofs.BucketLemmas.{IsSeeking}
use Rattle.q_prop.proofs.buckets.Buckets.find.Given as goal

abbrev pub invariant-loop : goal.invariant-loop
invariant-loop l = IsSeeking l.propagator l.lits l.self.nexts.items l.at l.counter
