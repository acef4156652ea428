use Rattle.std.proofs.Common.{take}
use Rattle.q_extract.specs.Saying.{said_in}
use Rattle.q_resolve.specs.Merging.{IsSaidSame}
use Rattle.q_resolve.proofs.saying.say_same.Given as goal

abbrev pub invariant-loop-k : goal.invariant-loop-k
invariant-loop-k l = IsSaidSame (said_in l.said l.number) (take l.k-index l.source) l.fn.drops l.drops
