use Rattle.std.proofs.Common.{◌≡◌}
use Rattle.q_reduce.proofs.joining.join_all.Given as goal

abbrev pub invariant-loop-id : goal.invariant-loop-id
invariant-loop-id l = l.labels.none ≡ l.fn.labels.none
