use Rattle.q_check.proofs.SlotNumbers.{found, not_found}
use Rattle.q_check.proofs.numbered.NumberedBook.find.Goals as goal

pub returns-in-Some : goal.returns-in-Some
returns-in-Some c =
    let h = rw c.store.ensures at c.in-Some.ensures in
    rw (← c.self.view_is) (found c.self.inside.ledger.slots c.self.inside.numbers c.self.invariant c.args.clause.now c.in-Some.at c.number_of.result h c.number_of.ensures)

pub returns-in-None : goal.returns-in-None
returns-in-None c =
    let f = rw c.store.ensures at c.in-None.ensures in
    rw (← c.self.view_is) (not_found c.self.inside.ledger.slots c.self.inside.numbers c.self.invariant c.args.clause.now f)
