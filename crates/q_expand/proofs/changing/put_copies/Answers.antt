use Rattle.std.proofs.Common.{◌∙◌, refl}
use Rattle.q_expand.specs.Steps.{copy_step}
use Rattle.q_expand.proofs.StepQueue.{took-none}
use Rattle.q_expand.proofs.StepLoops.{turn-can, turn-took, turns-took}
use Rattle.q_expand.proofs.changing.put_copies.Goals as goal

pub loop-i-init : goal.loop-i-init
loop-i-init c = record { taken = took-none c.args.kernel.now; same = refl }

pub put_copy-requires : goal.put_copy-requires
put_copy-requires c = turn-can copy_step c.args.order.now c.args.first c.loop-i.i c.args.kernel.now c.loop-i.kernel c.loop-i-test.true c.requires.steps c.loop-i.invariant.taken

pub loop-i-preserved : goal.loop-i-preserved
loop-i-preserved c = record {
  taken = turn-took copy_step c.args.order.now c.args.first c.loop-i.i c.args.kernel.now c.loop-i.kernel c.put_copy.new.kernel c.loop-i-test.true c.loop-i.invariant.taken c.put_copy.ensures.taken;
  same = c.put_copy.ensures.same ∙ c.loop-i.invariant.same;
}

pub returns-clause-taken : goal.returns-clause-taken
returns-clause-taken c = turns-took copy_step c.args.order.now c.args.first c.loop-i.i c.args.kernel.now c.loop-i.kernel c.loop-i-test.false c.loop-i.invariant.taken
