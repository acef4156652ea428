use Rattle.std.proofs.Common.{◌∙◌, ap, sym}
use Rattle.q_logic.specs.Prelude.{NumberedFormula, Slots}
use Rattle.q_check.proofs.SlotNumbers.{held-at, has-place}
use Rattle.q_check.proofs.NumberedSteps.{gone-numbered, gone-numbers}
use Rattle.q_check.proofs.numbered.NumberedBook.delete.Goals as goal

pub delete-requires : goal.delete-requires
delete-requires c =
    let there = rw (← c.self.view_is) at c.requires in
    (held-at c.self.inside.ledger.slots c.self.inside.numbers c.self.invariant c.args.number c.in-Some.at c.args.clause.now there (sym c.in-Some.ensures)).1

pub invariant_of-self : goal.invariant_of-self
invariant_of-self c =
    let there = rw (← c.self.view_is) at c.requires in
    let h = held-at c.self.inside.ledger.slots c.self.inside.numbers c.self.invariant c.args.number c.in-Some.at c.args.clause.now there (sym c.in-Some.ensures) in
    rw (c.delete.ensures, c.put.ensures) (gone-numbered c.self.inside.ledger.slots c.self.inside.numbers c.self.invariant c.args.number c.in-Some.at c.args.clause.now h.0 h.1)

pub returns-in-Some : goal.returns-in-Some
returns-in-Some c =
    let there = rw (← c.self.view_is) at c.requires in
    let h = held-at c.self.inside.ledger.slots c.self.inside.numbers c.self.invariant c.args.number c.in-Some.at c.args.clause.now there (sym c.in-Some.ensures) in
    let make : Slots → NumberedFormula = λ N. record { prefix = c.self.inside.ledger.prefix; slots = N } in
    rw (c.delete.ensures, c.put.ensures, ← c.self.view_is) (ap make (gone-numbers c.self.inside.ledger.slots c.self.inside.numbers c.self.invariant c.args.number c.in-Some.at c.args.clause.now h.0 h.1))

pub returns-in_default : goal.returns-in_default
returns-in_default c =
    let there = rw (← c.self.view_is) at c.requires in
    let h = has-place c.self.inside.ledger.slots c.self.inside.numbers c.self.invariant c.args.number c.args.clause.now there in
    absurd (c.in_default.not-Some h.0 (c.slot_of.ensures ∙ h.1))
