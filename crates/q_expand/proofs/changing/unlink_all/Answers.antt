use Rattle.q_expand.specs.Steps.{unlink_steps}
use Rattle.q_expand.proofs.StepQueue.{took-none}
use Rattle.q_expand.proofs.StepLoops.{turn-can, turn-took, turns-took}
use Rattle.q_expand.proofs.changing.unlink_all.Goals as goal

pub loop-i-init : goal.loop-i-init
loop-i-init c = record { taken = took-none c.args.kernel.now }

pub unlink-requires-clause-steps : goal.unlink-requires-clause-steps
unlink-requires-clause-steps c = turn-can (unlink_steps c.args.u.var) c.args.order.now c.args.first c.loop-i.i c.args.kernel.now c.loop-i.kernel c.loop-i-test.true c.requires.steps c.loop-i.invariant.taken

pub loop-i-preserved : goal.loop-i-preserved
loop-i-preserved c = record {
  taken = turn-took (unlink_steps c.args.u.var) c.args.order.now c.args.first c.loop-i.i c.args.kernel.now c.loop-i.kernel c.unlink.new.kernel c.loop-i-test.true c.loop-i.invariant.taken c.unlink.ensures.taken;
}

pub returns : goal.returns
returns c = record { taken = turns-took (unlink_steps c.args.u.var) c.args.order.now c.args.first c.loop-i.i c.args.kernel.now c.loop-i.kernel c.loop-i-test.false c.loop-i.invariant.taken }
