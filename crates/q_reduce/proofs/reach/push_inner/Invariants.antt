use Rattle.std.proofs.Common.{take}
use Rattle.q_reduce.specs.Walks.{IsWidened}
use Rattle.q_reduce.proofs.reach.push_inner.Given as goal

abbrev pub invariant-loop-k : goal.invariant-loop-k
invariant-loop-k l = IsWidened l.kernel.prefix l.u (take l.k-index l.clause) l.fn.queue l.queue
