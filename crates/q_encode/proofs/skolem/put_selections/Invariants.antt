use Rattle.std.proofs.Common.{◌≡◌, ◌++◌, drop}
use Rattle.q_miter.specs.Miters.{in_order, selections}
use Rattle.q_encode.proofs.skolem.put_selections.Given as goal

abbrev pub invariant-loop-at : goal.invariant-loop-at
invariant-loop-at l =
    l.rows ++ in_order (selections l.top l.circuits l.at (drop l.at l.clauses)) ≡
    l.initial.rows ++ in_order (selections l.top l.circuits 0 l.clauses)
