use Rattle.std.proofs.Common.{◌≡◌, ◌∙◌, ◌++◌, sym, subst}
use Rattle.q_logic.specs.Prelude.{Clause, outer}
use Rattle.q_check.specs.Numbers.{numbered_by, left_out, place_in, Explains}
use Rattle.q_prop.specs.Slots.{without}
use Rattle.q_check.proofs.SlotNumbers.{held-at, has-place}
use Rattle.q_check.proofs.HintNumbers.{linked, explained}
use Rattle.q_check.proofs.numbered.NumberedBook.explained_with.Goals as goal

pub returns-in_default-clause-exact : goal.returns-in_default-clause-exact
returns-in_default-clause-exact c D e =
    let there = rw (← c.self.view_is) at e in
    let h = has-place c.self.inside.ledger.slots c.self.inside.numbers c.self.invariant c.args.number D there in
    absurd (c.in_default.not-Some h.0 (c.slot_of.ensures ∙ h.1))

pub returns-clause-exact : goal.returns-clause-exact
returns-clause-exact c D e =
    let s = c.self.inside.ledger.slots in
    let ps = c.self.inside.numbers in
    let there = rw (← c.self.view_is) at e in
    let h = held-at s ps c.self.invariant c.args.number c.in-Some.at D there (sym c.in-Some.ensures) in
    let joined : c.deref.result.now ≡ c.args.sides.now.base.now ++ outer c.self.inside.ledger.prefix c.args.sides.now.m D = c.deref.ensures.value ∙ c.in_ok-join.ensures D h.1 in
    let w = linked s ps c.self.invariant c.args.sides.now.skip in
    let names = rw c.deref-2.ensures.value at c.in_ok-name_all.ensures in
    let exact = rw c.skipped_slot-left_out.ensures at c.in_ok-yes.ensures.exact in
    let shown = rw c.skipped_slot-left_out.ensures at c.in_ok-yes.ensures.shown in
    let x = explained (without s (place_in ps c.args.sides.now.skip)) (left_out c.args.sides.now.skip (numbered_by s ps)) ps w c.deref.result.now c.explain.new.slots.items c.name_all.new.names.items c.in_ok-yes.yes names exact shown in
    rw (← c.self.view_is) (subst (λ (C : Clause). Explains (left_out c.args.sides.now.skip (numbered_by s ps)) C c.name_all.new.names.items c.in_ok-yes.yes) joined x)
