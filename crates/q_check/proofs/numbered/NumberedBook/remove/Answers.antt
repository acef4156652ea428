use Rattle.q_check.proofs.SlotNumbers.{forth}
use Rattle.q_check.proofs.numbered.NumberedBook.remove.Goals as goal

pub remove-requires-clause-absent : goal.remove-requires-clause-absent
remove-requires-clause-absent c D m =
    let h = rw (← c.self.view_is) at c.requires.absent in
    h D (forth c.self.inside.ledger.slots c.self.inside.numbers c.self.invariant D m)
