use Rattle.std.proofs.Common.{◌≡◌, true, inr, refl, sym, subst}
use Rattle.q_logic.specs.Prelude.{Literal, is_bound}
use Rattle.q_logic.proofs.Common.{test-false}
use Rattle.q_prop.specs.Slots.{filled}
use Rattle.q_herbrand.proofs.RunReversals.{warranted-pivot}
use Rattle.q_herbrand.proofs.steps.added_entry.Goals as goal

pub outers-requires : goal.outers-requires
outers-requires c =
    let L = c.args.ledger.now in
    let n = test-false c.in_ok-implied.field-0 c.in_ok-implied.ensures.exact c.if-branch.false in
    rw c.in_ok-implied.ensures.same
    (subst (λ (k : Literal). is_bound L.prefix k.var ≡ true) (sym c.negated.ensures)
    (warranted-pivot L.prefix (filled L.slots) c.args.clause.now c.args.first c.in-Some.pivot c.requires n
    c.in-Some.is))

pub returns-in_ok-outer-in-Some-clause-entry : goal.returns-in_ok-outer-in-Some-clause-entry
returns-in_ok-outer-in-Some-clause-entry c =
    let n = test-false c.in_ok-implied.field-0 c.in_ok-implied.ensures.exact c.if-branch.false in
    let o = rw (c.negated.ensures, c.in_ok-implied.ensures.same) at c.in_ok-outer-in-Some.ensures.exact in
    inr (n, (c.in-Some.pivot, c.in_ok-outer-in-Some.outer, c.in-Some.is, o, refl))
