use Rattle.std.proofs.Common.{◌≡◌}
use Rattle.q_reduce.proofs.joining.root_of.Given as goal

abbrev pub invariant-loop : goal.invariant-loop
invariant-loop l = l.labels.none ≡ l.fn.labels.none
