use Rattle.std.proofs.Common.{◌≡◌, false}
use Rattle.q_resolve.proofs.MarkChanges.{IsMarkedFrom}
use Rattle.q_resolve.proofs.marked.unmark.Given as goal

abbrev pub invariant-loop-lit : goal.invariant-loop-lit
invariant-loop-lit l = record { none : l.marks.far.none ≡ false; marked : IsMarkedFrom l.marks l.lits l.lit-index }
