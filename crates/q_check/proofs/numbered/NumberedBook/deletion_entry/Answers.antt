use Rattle.std.proofs.Common.{◌∙◌, sym}
use Rattle.q_logic.proofs.Common.{test-false}
use Rattle.q_check.proofs.DeletionUndo.{implied-left, pivot-bound, pivot-left}
use Rattle.q_check.proofs.HintSlots.{nothing-there}
use Rattle.q_check.proofs.numbered.NumberedBook.deletion_entry.Goals as goal

pub returns-in_default-clause-exact : goal.returns-in_default-clause-exact
returns-in_default-clause-exact c =
    let f = rw (← c.self.view_is) at c.requires.there in
    absurd (nothing-there c.self.inside.ledger.slots c.self.inside.numbers c.args.number c.args.named.now.clause.now (sym c.slot_of.ensures ∙ c.in_default.is) f)

pub returns-then-branch-clause-exact : goal.returns-then-branch-clause-exact
returns-then-branch-clause-exact c =
    let i = c.self.inside in
    let f = rw (← c.self.view_is) at c.requires.there in
    let g = sym c.slot_of.ensures ∙ c.in-Some.is in
    rw (← c.self.view_is) (implied-left i.ledger.prefix i.ledger.slots i.numbers c.self.invariant c.args.number c.in-Some.at c.args.named.now.clause.now g f c.args.named.now.first (c.in_ok-implied.ensures.exact.0 c.if-branch.true))

pub pivot_entry-requires : goal.pivot_entry-requires
pivot_entry-requires c =
    let i = c.self.inside in
    let f = rw (← c.self.view_is) at c.requires.there in
    let w = rw (← c.self.view_is) at c.requires.warranted in
    let g = sym c.slot_of.ensures ∙ c.in-Some.is in
    rw c.in_ok-implied.ensures.same (pivot-bound i.ledger.prefix i.ledger.slots i.numbers c.self.invariant c.args.number c.in-Some.at c.args.named.now.clause.now g f c.args.named.now.first w (test-false c.in_ok-implied.field-0 c.in_ok-implied.ensures.exact c.if-branch.false))

pub returns-clause-exact : goal.returns-clause-exact
returns-clause-exact c =
    let i = c.self.inside in
    let f = rw (← c.self.view_is) at c.requires.there in
    let w = rw (← c.self.view_is) at c.requires.warranted in
    let g = sym c.slot_of.ensures ∙ c.in-Some.is in
    let u = rw c.in_ok-implied.ensures.same at c.in_ok-entry.ensures.exact in
    rw (← c.self.view_is) (pivot-left i.ledger.prefix i.ledger.slots i.numbers c.self.invariant c.args.number c.in-Some.at c.args.named.now.clause.now g f c.args.named.now.first c.in_ok-entry.entry w (test-false c.in_ok-implied.field-0 c.in_ok-implied.ensures.exact c.if-branch.false) u)
