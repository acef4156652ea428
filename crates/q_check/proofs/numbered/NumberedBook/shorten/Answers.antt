use Rattle.std.proofs.Common.{ap, sym}
use Rattle.q_logic.specs.Prelude.{NumberedFormula, Slots}
use Rattle.q_check.proofs.SlotNumbers.{held-at}
use Rattle.q_check.proofs.NumberedSteps.{shortened-numbered, shortened-numbers}
use Rattle.q_check.proofs.numbered.NumberedBook.shorten.Goals as goal

pub shorten-requires-clause-there : goal.shorten-requires-clause-there
shorten-requires-clause-there c =
    let there = rw (← c.self.view_is) at c.requires.there in
    (held-at c.self.inside.ledger.slots c.self.inside.numbers c.self.invariant c.args.number c.in-Some.at c.args.clause.now there (sym c.in-Some.ensures)).1

pub invariant_of-self-2 : goal.invariant_of-self-2
invariant_of-self-2 c =
    let there = rw (← c.self.view_is) at c.requires.there in
    let h = held-at c.self.inside.ledger.slots c.self.inside.numbers c.self.invariant c.args.number c.in-Some.at c.args.clause.now there (sym c.in-Some.ensures) in
    let p = c.in_ok-new.ensures.ok in
    rw (p.2, c.put.ensures) (shortened-numbered c.self.inside.ledger.slots c.self.inside.numbers c.self.invariant c.args.number c.in-Some.at c.args.clause.now h.0 h.1 p.0 c.in_ok-new.new c.args.rest.now p.1)

pub returns-clause-ok : goal.returns-clause-ok
returns-clause-ok c =
    let there = rw (← c.self.view_is) at c.requires.there in
    let h = held-at c.self.inside.ledger.slots c.self.inside.numbers c.self.invariant c.args.number c.in-Some.at c.args.clause.now there (sym c.in-Some.ensures) in
    let p = c.in_ok-new.ensures.ok in
    let make : Slots → NumberedFormula = λ N. record { prefix = c.self.inside.ledger.prefix; slots = N } in
    rw (p.2, c.put.ensures, ← c.self.view_is) (ap make (shortened-numbers c.self.inside.ledger.slots c.self.inside.numbers c.self.invariant c.args.number c.in-Some.at c.args.clause.now h.0 h.1 p.0 c.in_ok-new.new c.args.rest.now p.1))
