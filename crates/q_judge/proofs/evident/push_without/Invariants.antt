use Rattle.std.proofs.Common.{◌≡◌, take, ◌++◌}
use Rattle.q_logic.specs.Prelude.{without}
use Rattle.q_judge.proofs.evident.push_without.Given as goal

abbrev pub invariant-loop-k : goal.invariant-loop-k
invariant-loop-k l = l.joined.items ≡ l.fn.joined.items ++ without l.lit (take l.k-index l.lits)
