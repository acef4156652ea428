use Rattle.std.proofs.Common.{take}
use Rattle.q_herbrand.specs.Drops.{HasInner}
use Rattle.q_herbrand.proofs.drops.has_inner.Given as goal

abbrev pub invariant-loop-k : goal.invariant-loop-k
invariant-loop-k l = HasInner l.scope (take l.k-index l.clause) l.var → ⊥
