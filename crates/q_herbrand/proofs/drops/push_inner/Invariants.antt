use Rattle.std.proofs.Common.{◌≡◌, take, ◌++◌}
use Rattle.q_logic.specs.Reversals.{inner}
use Rattle.q_herbrand.proofs.drops.push_inner.Given as goal

abbrev pub invariant-loop-k : goal.invariant-loop-k
invariant-loop-k l = l.row.items ≡ l.fn.row.items ++ inner l.scope l.lit (take l.k-index l.clause)
