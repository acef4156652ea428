use Rattle.std.proofs.Common.{◌≡◌, take}
use Rattle.q_encode.specs.Sides.{turned}
use Rattle.q_encode.proofs.turning.turn.Given as goal

abbrev pub invariant-loop-at : goal.invariant-loop-at
invariant-loop-at l = l.made.items ≡ turned l.side (take l.at l.prefix)
