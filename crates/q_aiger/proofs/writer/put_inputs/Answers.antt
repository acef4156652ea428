use Rattle.q_aiger.proofs.UnwrittenTexts.{written-more, inputs-next, extends-append}
use Rattle.q_aiger.proofs.writer.put_inputs.Goals as goal

pub loop-input-preserved : goal.loop-input-preserved
loop-input-preserved c = record {
  text = written-more _ _ _ _ _ _ c.in_ok-put_line.ensures.ok (inputs-next c.loop-input.input c.args.inputs c.loop-input-test.true) c.loop-input.invariant.text;
  before = extends-append _ _ _ _ c.loop-input.invariant.before c.in_ok-put_line.ensures.ok;
}
