use Rattle.q_expand.specs.Steps.{link_steps}
use Rattle.q_expand.proofs.StepQueue.{took-none, keeps-itself, keeps-through}
use Rattle.q_expand.proofs.StepLoops.{turn-can, turn-took, turns-took}
use Rattle.q_expand.proofs.changing.link_all.Goals as goal

pub loop-i-init : goal.loop-i-init
loop-i-init c = record { taken = took-none c.args.kernel.now; keeps = keeps-itself c.args.kernel.now }

pub link-requires-clause-steps : goal.link-requires-clause-steps
link-requires-clause-steps c = turn-can (link_steps c.args.u.var) c.args.order.now c.args.first c.loop-i.i c.args.kernel.now c.loop-i.kernel c.loop-i-test.true c.requires.steps c.loop-i.invariant.taken

pub loop-i-preserved : goal.loop-i-preserved
loop-i-preserved c = record {
  taken = turn-took (link_steps c.args.u.var) c.args.order.now c.args.first c.loop-i.i c.args.kernel.now c.loop-i.kernel c.link.new.kernel c.loop-i-test.true c.loop-i.invariant.taken c.link.ensures.taken;
  keeps = keeps-through c.args.kernel.now c.loop-i.kernel c.link.new.kernel c.loop-i.invariant.keeps c.link.ensures.keeps;
}

pub returns-clause-taken : goal.returns-clause-taken
returns-clause-taken c = turns-took (link_steps c.args.u.var) c.args.order.now c.args.first c.loop-i.i c.args.kernel.now c.loop-i.kernel c.loop-i-test.false c.loop-i.invariant.taken
