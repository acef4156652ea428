use Rattle.q_aiger.proofs.OutputCones.{turn-output}
use Rattle.q_aiger.proofs.cones.mark_outputs.Goals as goal

pub loop-output-preserved : goal.loop-output-preserved
loop-output-preserved c =
    turn-output c.args.certificate.now c.loop-output.marks.items c.mark.new.marks.items c.outputs-output-items.result.now c.loop-output.output-index _
    c.outputs-output-items.ensures.value c.outputs-output-items.ensures.lawful c.loop-output.invariant c.loop-output-test.true c.mark.ensures
