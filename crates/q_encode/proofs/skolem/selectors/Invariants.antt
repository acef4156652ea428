use Rattle.std.proofs.Common.{◌≡◌}
use Rattle.q_encode.specs.Selected.{selector_row}
use Rattle.q_encode.proofs.skolem.selectors.Given as goal

abbrev pub invariant-loop-at : goal.invariant-loop-at
invariant-loop-at l = l.row.items ≡ selector_row l.top l.gates 0 l.at
