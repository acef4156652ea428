use Rattle.std.proofs.Common.{◌≡◌}
use Rattle.q_reduce.proofs.joining.join_clause.Given as goal

abbrev pub invariant-loop-k : goal.invariant-loop-k
invariant-loop-k l = l.labels.none ≡ l.fn.labels.none
