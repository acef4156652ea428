use Rattle.std.proofs.Common.{take}
use Rattle.q_herbrand.specs.Drafted.{IsChosen}
use Rattle.q_herbrand.proofs.carrying.choose.Given as goal

abbrev pub invariant-loop-bound : goal.invariant-loop-bound
invariant-loop-bound l = IsChosen (take l.bound-index l.turned) l.draft l.settled l.row.items
