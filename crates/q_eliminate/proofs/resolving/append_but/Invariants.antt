use Rattle.std.proofs.Common.{◌≡◌, ◌≤◌, ◌+◌, ◌-◌, ◌++◌, drop, length}
use Rattle.std.specs.Vec.{vec_len, vec_capacity}
use Rattle.q_logic.specs.Prelude.{without}
use Rattle.q_eliminate.proofs.resolving.append_but.Given as goal

abbrev pub invariant-loop-at : goal.invariant-loop-at
invariant-loop-at l = record {
  items : l.into.items ++ without l.fn.out (drop l.at l.clause) ≡ l.fn.into.items ++ without l.fn.out (drop l.fn.from l.clause);
  len : vec_len l.into + (length l.clause - l.at) ≤ vec_len l.fn.into + (length l.clause - l.fn.from);
  room : vec_len l.into + (length l.clause - l.at) ≤ vec_capacity l.into;
  same : vec_capacity l.into ≡ vec_capacity l.fn.into;
}
