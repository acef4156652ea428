use Rattle.q_herbrand.proofs.FirstSlots.{begun-taken}
use Rattle.q_herbrand.proofs.slots.begin.Goals as goal

pub loop-place-preserved : goal.loop-place-preserved
loop-place-preserved c =
    begun-taken c.args.names.now c.loop-place.place c.loop-place.slots _ c.requires c.loop-place-test.true
    c.loop-place.invariant c.in_ok-push.ensures.items c.in_ok-push-2.ensures.items c.in_ok-put.ensures.ok
