use Rattle.std.proofs.Common.{drop}
use Rattle.q_eliminate.specs.Plans.{IsOuter}
use Rattle.q_eliminate.proofs.conditions.is_outer.Given as goal

abbrev pub invariant-loop-k : goal.invariant-loop-k
invariant-loop-k l = IsOuter l.kernel.prefix l.x (drop l.k-index l.clause) → IsOuter l.kernel.prefix l.x l.clause
