use Rattle.q_prop.proofs.BucketLemmas.{IsTracing}
use Rattle.q_prop.proofs.buckets.before.Given as goal

abbrev pub invariant-loop : goal.invariant-loop
invariant-loop l = IsTracing l.nexts l.first l.slot l.at l.counter
