use Rattle.q_extract.specs.Rows.{IsLast, guards_in, drops_in}
use Rattle.q_extract.proofs.Walked.{IsPart}
use Rattle.q_extract.proofs.building.decide.Given as goal

abbrev pub invariant-loop-at : goal.invariant-loop-at
invariant-loop-at l = record {
  part : IsPart l.initial.aig l.aig l.tables.inputs.items l.tables.circuits.items (guards_in l.drops) l.initial.held.items l.held.items l.var (drops_in l.drops) l.end l.circuit;
  last : IsLast l.drops.row.items l.var l.end l.at;
}

abbrev pub decreases-loop-at : goal.decreases-loop-at
decreases-loop-at l = l.end
