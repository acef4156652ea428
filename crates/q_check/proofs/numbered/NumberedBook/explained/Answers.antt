use Rattle.q_check.specs.Numbers.{numbered_by, left_out, place_in}
use Rattle.q_prop.specs.Slots.{without}
use Rattle.q_check.proofs.HintNumbers.{linked, explained}
use Rattle.q_check.proofs.numbered.NumberedBook.explained.Goals as goal

pub returns-clause-exact : goal.returns-clause-exact
returns-clause-exact c =
    let s = c.self.inside.ledger.slots in
    let ps = c.self.inside.numbers in
    let w = linked s ps c.self.invariant c.args.skip in
    let names = rw c.deref.ensures.value at c.in_ok-name_all.ensures in
    let exact = rw c.skipped_slot-left_out.ensures at c.in_ok-yes.ensures.exact in
    let shown = rw c.skipped_slot-left_out.ensures at c.in_ok-yes.ensures.shown in
    rw (← c.self.view_is) (explained (without s (place_in ps c.args.skip)) (left_out c.args.skip (numbered_by s ps)) ps w c.args.lits.now c.explain.new.slots.items c.name_all.new.names.items c.in_ok-yes.yes names exact shown)
