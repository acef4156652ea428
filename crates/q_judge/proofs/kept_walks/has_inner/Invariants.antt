use Rattle.std.proofs.Common.{take}
use Rattle.q_judge.specs.Walks.{HasInner}
use Rattle.q_judge.proofs.kept_walks.has_inner.Given as goal

abbrev pub invariant-loop-k : goal.invariant-loop-k
invariant-loop-k l = HasInner l.scope l.u l.known (take l.k-index l.clause)
