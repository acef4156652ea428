use Rattle.std.proofs.Common.{◌≤◌, ◌-◌, take, length}
use Rattle.q_run_show.specs.Readings.{Advances}
use Rattle.q_run_show.proofs.reading.Reading.take_piece.Given as goal

abbrev pub invariant-loop-at : goal.invariant-loop-at
invariant-loop-at l = Advances l.fn.self l.self (take l.at l.piece) × (l.at ≤ length l.piece)

abbrev pub decreases-loop-at : goal.decreases-loop-at
decreases-loop-at l = length l.piece - l.at
