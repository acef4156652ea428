use Rattle.std.proofs.Common.{◌≡◌, ◌++◌, drop}
use Rattle.q_miter.specs.Miters.{needed}
use Rattle.q_encode.proofs.needed.needed.Given as goal

abbrev pub invariant-loop-at : goal.invariant-loop-at
invariant-loop-at l = l.kept ++ needed l.top l.circuits (drop l.at l.formula.matrix) ≡ needed l.top l.circuits l.formula.matrix
