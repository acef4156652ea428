use Rattle.std.proofs.Common.{take}
use Rattle.q_expand.specs.Dependents.{IsWidened}
use Rattle.q_expand.proofs.dependents.push_inner.Given as goal

abbrev pub invariant-loop-k : goal.invariant-loop-k
invariant-loop-k l = IsWidened l.kernel.prefix l.u.var (take l.k-index l.clause) l.fn.vars l.vars
