use Rattle.std.proofs.Common.{◌≡◌, ◌≤◌, drop, length}
use Rattle.q_logic.specs.Prelude.{greatest}
use Rattle.q_encode.proofs.sums.greatest.Given as goal

abbrev pub invariant-loop-at : goal.invariant-loop-at
invariant-loop-at l = record {
  bound : l.at ≤ length l.prefix;
  value : l.greatest ≡ greatest (drop l.at l.prefix);
}

abbrev pub decreases-loop-at : goal.decreases-loop-at
decreases-loop-at l = l.at
