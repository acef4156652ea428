use Rattle.std.proofs.Common.{◌∙◌, sym}
use Rattle.q_logic.proofs.Common.{ok-iff}
use Rattle.q_check.proofs.SlotNumbers.{has-place, reducible}
use Rattle.q_check.proofs.numbered.NumberedBook.is_reducible.Goals as goal

pub returns-in_default-clause-exact : goal.returns-in_default-clause-exact
returns-in_default-clause-exact c =
    let there = rw (← c.self.view_is) at c.requires.there in
    let h = has-place c.self.inside.ledger.slots c.self.inside.numbers c.self.invariant c.args.number c.args.clause.now there in
    absurd (c.in_default.not-Some h.0 (c.slot_of.ensures ∙ h.1))

pub returns-clause-exact : goal.returns-clause-exact
returns-clause-exact c =
    rw (← c.self.view_is) (ok-iff c.is_reducible.result
    (reducible c.self.inside.ledger.slots c.self.inside.numbers c.self.invariant c.self.inside.ledger.prefix c.args.clause.now c.args.lit c.args.number c.in-Some.at (sym c.in-Some.ensures)) c.is_reducible.ensures.exact)
