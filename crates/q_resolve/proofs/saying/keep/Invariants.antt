use Rattle.std.proofs.Common.{take}
use Rattle.q_extract.specs.Rows.{said_next}
use Rattle.q_resolve.proofs.Sayings.{KeptUpto}
use Rattle.q_resolve.proofs.saying.keep.Given as goal

abbrev pub invariant-loop-k : goal.invariant-loop-k
invariant-loop-k l = KeptUpto l.prefix (take l.k-index l.lits) l.own l.number (said_next l.drops) l.fn.said l.said
