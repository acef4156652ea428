use Rattle.std.proofs.Common.{◌≡◌, length}
use Rattle.q_rule.proofs.MarkChanges.{IsMarkedFrom}
use Rattle.q_rule.proofs.queue.unmark.Given as goal

abbrev pub invariant-loop-lit : goal.invariant-loop-lit
invariant-loop-lit l = record { len : length l.marks.items ≡ length l.fn.marks.items; none : l.marks.none ≡ l.fn.marks.none; marked : IsMarkedFrom l.marks.items l.lits l.lit-index }
