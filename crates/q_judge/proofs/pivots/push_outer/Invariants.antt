use Rattle.std.proofs.Common.{◌≡◌, take, ◌++◌}
use Rattle.q_logic.specs.Prelude.{outer}
use Rattle.q_judge.proofs.pivots.push_outer.Given as goal

abbrev pub invariant-loop-k : goal.invariant-loop-k
invariant-loop-k l = l.joined.items ≡ l.fn.joined.items ++ outer l.scope l.m (take l.k-index l.clause)
