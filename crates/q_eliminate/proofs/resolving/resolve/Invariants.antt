use Rattle.std.proofs.Common.{◌≡◌, ◌≤◌, ◌+◌, ◌-◌, ◌++◌, drop, length}
use Rattle.std.specs.Vec.{vec_len, vec_capacity}
use Rattle.q_logic.specs.Prelude.{negation, without, union, resolvent}
use Rattle.q_eliminate.proofs.resolving.resolve.Given as goal

abbrev pub invariant-loop-i : goal.invariant-loop-i
invariant-loop-i l = record {
  items : l.into.items ++ union (without l.fn.lit (drop l.i l.first)) (without (negation l.fn.lit) (drop l.j l.second)) ≡ resolvent l.fn.lit l.first l.second;
  first : l.i ≤ length l.first;
  second : l.j ≤ length l.second;
  room : vec_len l.into + ((length l.first - l.i) + (length l.second - l.j)) ≤ vec_capacity l.into;
  same : vec_capacity l.into ≡ vec_capacity l.fn.into;
}

abbrev pub decreases-loop-i : goal.decreases-loop-i
decreases-loop-i l = (length l.first - l.i) + (length l.second - l.j)
