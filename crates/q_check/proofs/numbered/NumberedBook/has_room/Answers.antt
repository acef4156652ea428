use Rattle.q_check.proofs.SlotNumbers.{room}
use Rattle.q_check.proofs.numbered.NumberedBook.has_room.Goals as goal

pub returns : goal.returns
returns c = rw (← c.self.view_is) (room c.self.inside.ledger.slots c.self.inside.numbers c.self.invariant c.args.limits c.args.clause.now c.has_room.result c.has_room.ensures)
