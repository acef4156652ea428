use Rattle.std.proofs.Common.{get_or, take}
use Rattle.std.proofs.lemmas.List.{take_more}
use Rattle.q_check.proofs.HintNumbers.{numbers-push}
use Rattle.q_check.proofs.numbered.name_all.Goals as goal

pub loop-slot-preserved : goal.loop-slot-preserved
loop-slot-preserved c =
    let slots = c.args.slots.now in
    let i = c.loop-slot.slot-index in
    rw (take_more slots i 0 c.loop-slot-test.true, c.in_ok-push.ensures.items)
    (numbers-push c.args.numbers.now (take i slots) c.loop-slot.names.items (get_or slots i 0) c.name_of.result c.loop-slot.invariant c.name_of.ensures)
