use Rattle.std.proofs.Common.{◌≡◌, length}
use Rattle.q_expand.proofs.ClauseMarks.{AreNotedFrom}
use Rattle.q_expand.proofs.ids.unmark.Given as goal

abbrev pub invariant-loop-id : goal.invariant-loop-id
invariant-loop-id l = record { len : length l.marks.items ≡ length l.fn.marks.items; marked : AreNotedFrom l.marks.items l.ids l.id-index }
