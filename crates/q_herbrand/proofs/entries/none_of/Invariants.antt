use Rattle.std.proofs.Common.{take}
use Rattle.q_herbrand.specs.Parts.{IsNoneOf}
use Rattle.q_herbrand.proofs.entries.none_of.Given as goal

abbrev pub invariant-loop-k : goal.invariant-loop-k
invariant-loop-k l = IsNoneOf l.initial.aig l.aig l.tables.inputs.items l.tables.circuits.items
    (take l.k-index l.clause) l.none
