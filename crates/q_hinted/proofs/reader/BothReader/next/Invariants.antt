use Rattle.std.proofs.Common.{◌-◌, length, None}
use Rattle.q_hinted.specs.Reading.{Reads}
use Rattle.q_hinted.proofs.reader.BothReader.next.Given as goal

abbrev pub invariant-loop-at : goal.invariant-loop-at
invariant-loop-at l = Reads l.fn.self l.self l.piece l.at None

abbrev pub decreases-loop-at : goal.decreases-loop-at
decreases-loop-at l = length l.piece - l.at
