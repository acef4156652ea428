use Rattle.std.proofs.Common.{take}
use Rattle.q_logic.specs.Prelude.{without}
use Rattle.q_resolve.specs.Reduced.{IsJoined}
use Rattle.q_resolve.proofs.resolving.join_without.Given as goal

abbrev pub invariant-loop-k : goal.invariant-loop-k
invariant-loop-k l = IsJoined l.fn.row (without l.lit (take l.k-index l.lits)) l.row
