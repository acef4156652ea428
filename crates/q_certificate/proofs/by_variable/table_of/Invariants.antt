use Rattle.std.proofs.Common.{◌≤◌, length, drop}
use Rattle.q_certificate.specs.Copied.{strategy_of}
use Rattle.q_certificate.specs.Tabled.{AreCircuits}
use Rattle.q_certificate.proofs.by_variable.table_of.Given as goal

abbrev pub invariant-loop-i : goal.invariant-loop-i
invariant-loop-i l = record {
  bound : l.i ≤ length l.outputs;
  done : AreCircuits l._aig (strategy_of l._aig (drop l.i l.outputs)) l.table.items;
}

abbrev pub decreases-loop-i : goal.decreases-loop-i
decreases-loop-i l = l.i
