use Rattle.std.proofs.Common.{[]}
use Rattle.q_logic.specs.Prelude.{live}
use Rattle.q_kernel.specs.Prelude.{slots}
use Rattle.q_equiv.proofs.BinaryWalks.{IsWalk}
use Rattle.q_equiv.proofs.joined.is_joined.Given as goal

abbrev pub invariant-loop-head : goal.invariant-loop-head
invariant-loop-head l = IsWalk [] (live (slots l.kernel)) l.fn.from l.head l.queue
