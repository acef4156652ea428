use Rattle.std.proofs.Common.{◌≤◌, length}
use Rattle.q_kernel.specs.Prelude.{slots}
use Rattle.q_equiv.proofs.ClauseNumbers.{total_at}
use Rattle.q_equiv.proofs.room.weigh.Given as goal

abbrev pub invariant-loop-id : goal.invariant-loop-id
invariant-loop-id l = total_at length (slots l.kernel) l.yielded ≤ l.words
