use Rattle.std.proofs.Common.{take}
use Rattle.q_resolve.specs.Judged.{IsWorst}
use Rattle.q_resolve.proofs.lines.try_pivots.Given as goal

abbrev pub invariant-loop-k : goal.invariant-loop-k
invariant-loop-k l = IsWorst l.prefix l.first l.second l.own (take l.k-index l.first) l.fault
