use Rattle.std.proofs.Common.{drop, ◌≡◌, ◌≤◌, length}
use Rattle.q_herbrand.specs.Following.{AreTaken}
use Rattle.q_herbrand.proofs.entries.take_all.Given as goal

abbrev pub invariant-loop-i : goal.invariant-loop-i
invariant-loop-i l = record {
  bound : l.i ≤ length l.reversals;
  same : l.tables.inputs ≡ l.initial.tables.inputs;
  done : AreTaken l.initial.aig l.aig l.initial.tables.inputs.items l.initial.tables.circuits.items
      l.tables.circuits.items l.initial.slots l.slots (drop l.i l.reversals);
}

abbrev pub decreases-loop-i : goal.decreases-loop-i
decreases-loop-i l = l.i
