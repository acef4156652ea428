use Rattle.std.proofs.Common.{◌≡◌, take}
use Rattle.q_prop.specs.Slots.{filled}
use Rattle.q_judge.proofs.ledger.Ledger.clauses.Given as goal

abbrev pub invariant-loop-at : goal.invariant-loop-at
invariant-loop-at l = l.clauses ≡ filled (take l.at l.self.slots)
