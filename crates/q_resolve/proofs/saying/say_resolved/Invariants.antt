use Rattle.std.proofs.Common.{take}
use Rattle.q_extract.specs.Saying.{said_in}
use Rattle.q_resolve.specs.Merging.{IsSaidUpto}
use Rattle.q_resolve.proofs.saying.say_resolved.Given as goal

abbrev pub invariant-loop-k : goal.invariant-loop-k
invariant-loop-k l = IsSaidUpto l.owner l.prefix l.pivot (said_in l.said l.i) (said_in l.said l.j) l.first l.second (take l.k-index l.lits) l.parent l.fn.drops l.drops
