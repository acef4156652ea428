use Rattle.std.proofs.Common.{take}
use Rattle.q_judge.specs.Walks.{IsWidened}
use Rattle.q_judge.proofs.reach.push_inner.Given as goal

abbrev pub invariant-loop-k : goal.invariant-loop-k
invariant-loop-k l = IsWidened l.scope l.u (take l.k-index l.clause) l.fn.trail l.trail
