use Rattle.std.proofs.Common.{suc, drop}
use Rattle.q_solve.specs.Joins.{IsJoining}
use Rattle.q_solve.proofs.joining.join.Given as goal

abbrev pub invariant-loop-end : goal.invariant-loop-end
invariant-loop-end l =
    IsJoining l.initial.aig l.aig l.universal.lit (suc l.universal.depth) l.second l.first (drop l.second_at l.second) (drop l.first_at l.first) l.joined l.end

abbrev pub decreases-loop-end : goal.decreases-loop-end
decreases-loop-end l = l.end
