use Rattle.std.proofs.Common.{[]}
use Rattle.q_kernel.specs.Prelude.{slots}
use Rattle.q_equiv.proofs.BinaryWalks.{IsSpreading}
use Rattle.q_equiv.proofs.joined.spread_all.Given as goal

abbrev pub invariant-loop-id : goal.invariant-loop-id
invariant-loop-id l = IsSpreading [] (slots l.kernel) l.lit l.yielded l.fn.queue l.queue
