use Rattle.std.proofs.Common.{◌≡◌}
use Rattle.q_eliminate.proofs.sides.collect.Given as goal

abbrev pub invariant-loop-id : goal.invariant-loop-id
invariant-loop-id l = l.ids.items ≡ l.yielded
