use Rattle.q_logic.specs.Prelude.{others, Clause, slot}
use Rattle.std.proofs.Common.{◌≡◌, Some}
use Rattle.q_kernel.specs.Prelude.{slots}
use Rattle.q_reduce.proofs.FinishedWalk.{IsWalk}
use Rattle.q_reduce.proofs.reach.is_reducible.Given as goal

abbrev pub invariant-loop-head : goal.invariant-loop-head
invariant-loop-head l = (C : Clause) → slot (slots l.kernel) l.c ≡ Some C → IsWalk l.kernel.prefix (others l.c (slots l.kernel)) C l.lit l.head l.queue
