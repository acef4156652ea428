use Rattle.std.proofs.Common.{take}
use Rattle.q_solve.specs.Counting.{IsShifted}
use Rattle.q_solve.proofs.counts.Counts.shift.Given as goal

abbrev pub invariant-loop-at : goal.invariant-loop-at
invariant-loop-at l = IsShifted l.fn.self l.self (take l.at-index l.row) l.from l.to
