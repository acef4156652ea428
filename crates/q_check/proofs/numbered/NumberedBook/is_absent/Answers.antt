use Rattle.q_check.proofs.SlotNumbers.{absent}
use Rattle.q_check.proofs.numbered.NumberedBook.is_absent.Goals as goal

pub returns : goal.returns
returns c = rw (← c.self.view_is) (absent c.self.inside.ledger.slots c.self.inside.numbers c.self.invariant c.args.var c.is_absent.result (rw c.store.ensures at c.is_absent.ensures))
