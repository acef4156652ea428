use Rattle.q_herbrand.proofs.BuiltNodes.{built-more}
use Rattle.q_herbrand.proofs.settling.build_all.Goals as goal

pub loop-at-preserved : goal.loop-at-preserved
loop-at-preserved c =
    built-more c.args.draft.now c.args.aig.now c.loop-at.aig c.build.new.aig c.args.slots.now c.loop-at.made
    c.build.new.made c.args.order.now c.loop-at.at c.inputs.ensures.net c.requires.slots c.requires.order
    c.loop-at-test.true c.loop-at.invariant c.in_ok-build.ensures
