use Rattle.std.proofs.Common.{length}
use Rattle.q_prop.specs.Slots.{without}
use Rattle.q_check.specs.HintChecks.{place_at}
use Rattle.q_check.specs.Numbers.{left_out, numbered_by}
use Rattle.q_check.proofs.HintSlots.{placed-slot, chained-placed}
use Rattle.q_check.proofs.numbered.NumberedBook.chained.Goals as goal

pub returns-clause-exact : goal.returns-clause-exact
returns-clause-exact c =
    let s = c.self.inside.ledger.slots in
    let ps = c.self.inside.numbers in
    let skip = c.args.skip in
    let hints = c.args.hints.now in
    let a = c.self.invariant in
    let e = rw (c.skipped_slot-left_out.ensures, c.deref.ensures.value, c.in_ok-place_all.ensures, c.slots-none.ensures, c.store.ensures) at c.in_ok-yes.ensures.exact in
    let h = chained-placed (left_out skip (numbered_by s ps)) (without s (Rattle.q_check.specs.Numbers.place_in ps skip)) (place_at ps (length s)) (placed-slot s ps a skip) c.args.lits.now hints in
    rw (← c.self.view_is) ((λ t. h.0 (e.0 t)), (λ w. e.1 (h.1 w)))
