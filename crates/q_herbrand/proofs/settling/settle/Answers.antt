use Rattle.q_herbrand.proofs.BuiltNodes.{settled}
use Rattle.q_herbrand.proofs.settling.settle.Goals as goal

pub returns : goal.returns
returns c =
    settled c.args.draft.now c.args.aig.now c.build_all.new.aig c.args.slots.now c.build_all.new.made
    c.in_ok-order.order.items c.requires.slots c.in_ok-order.ensures
    (rw (c.deref.ensures.value) at c.in_ok-build_all.ensures)
