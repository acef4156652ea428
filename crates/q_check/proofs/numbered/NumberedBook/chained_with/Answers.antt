use Rattle.std.proofs.Common.{◌++◌, ◌∙◌, length, sym}
use Rattle.q_logic.specs.Prelude.{outer}
use Rattle.q_prop.specs.Slots.{without}
use Rattle.q_prop.proofs.HintSteps.{slot-Holds}
use Rattle.q_check.specs.HintChecks.{place_at}
use Rattle.q_check.specs.Numbers.{left_out, numbered_by, place_in}
use Rattle.q_check.proofs.HintSlots.{placed-slot, placed-there, chained-placed, nothing-there}
use Rattle.q_check.proofs.numbered.NumberedBook.chained_with.Goals as goal

pub returns-in_default-clause-exact : goal.returns-in_default-clause-exact
returns-in_default-clause-exact c D e =
    let f = rw (← c.self.view_is) at e in
    absurd (nothing-there c.self.inside.ledger.slots c.self.inside.numbers c.args.number D (sym c.slot_of.ensures ∙ c.in_default.is) f)

pub returns-clause-exact : goal.returns-clause-exact
returns-clause-exact c D e =
    let s = c.self.inside.ledger.slots in
    let ps = c.self.inside.numbers in
    let skip = c.args.sides.now.skip in
    let f = rw (← c.self.view_is) at e in
    let there = sym (placed-there s ps c.args.number c.in-Some.at (sym c.slot_of.ensures ∙ c.in-Some.is)) ∙ f in
    let j = c.in_ok-join.ensures D (slot-Holds s c.in-Some.at D there) in
    let y = rw (c.skipped_slot-left_out.ensures, c.deref.ensures.value, c.deref-2.ensures.value, j, c.in_ok-place_all.ensures, c.slots-none.ensures, c.store.ensures) at c.in_ok-yes.ensures.exact in
    let h = chained-placed (left_out skip (numbered_by s ps)) (without s (place_in ps skip)) (place_at ps (length s)) (placed-slot s ps c.self.invariant skip) (c.args.sides.now.base.now ++ outer c.self.inside.ledger.prefix c.args.sides.now.m D) c.args.hints.now in
    rw (← c.self.view_is) ((λ t. h.0 (y.0 t)), (λ w. y.1 (h.1 w)))
