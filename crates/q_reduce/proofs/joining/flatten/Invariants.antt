use Rattle.std.proofs.Common.{◌≡◌}
use Rattle.q_reduce.proofs.joining.flatten.Given as goal

abbrev pub invariant-loop-var : goal.invariant-loop-var
invariant-loop-var l = l.labels.none ≡ l.fn.labels.none
