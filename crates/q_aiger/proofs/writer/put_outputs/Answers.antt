use Rattle.std.proofs.Common.{◌≡◌, ap, length, map, arith}
use Rattle.std.proofs.lemmas.List.{length-map}
use Rattle.q_logic.proofs.Common.{on_err}
use Rattle.q_aig.specs.Prelude.{output_of}
use Rattle.q_aiger.proofs.OutputCones.{output-part}
use Rattle.q_aiger.proofs.UnwrittenTexts.{outputs-step, extends-append}
use Rattle.q_text.proofs.LongerTexts.{extends-more}
use Rattle.q_aiger.proofs.writer.put_outputs.Goals as goal

pub literal-requires-clause-part : goal.literal-requires-clause-part
literal-requires-clause-part c = (output-part c.args.certificate.now c.outputs-output-items.result.now c.loop-output.output-index _ c.outputs-output-items.ensures.value c.loop-output-test.true).0

pub returns-in_err-put_line-clause-err : goal.returns-in_err-put_line-clause-err
returns-in_err-put_line-clause-err c = on_err c.from_residual.result (extends-more _ _ _ c.loop-output.invariant.before c.in_err-put_line.ensures.err)

pub loop-output-preserved : goal.loop-output-preserved
loop-output-preserved c =
    let p = output-part c.args.certificate.now c.outputs-output-items.result.now c.loop-output.output-index _ c.outputs-output-items.ensures.value c.loop-output-test.true in
    let len : length (map output_of c.outputs-output-items.result.now) ≡ length c.args.certificate.now.outputs = ap length c.outputs-output-items.ensures.value in
    let same : length (map output_of c.outputs-output-items.result.now) ≡ length c.outputs-output-items.result.now = length-map c.outputs-output-items.result.now output_of in
    record {
      text = outputs-step _ _ _ (length c.args.certificate.now.inputs) c.args.cones.now.kept.items c.args.certificate.now.outputs c.loop-output.output-index c.literal.result _ c.in_ok-put_line.ensures.ok c.literal.ensures p.1 (omega arith) c.loop-output.invariant.text;
      before = extends-append _ _ _ _ c.loop-output.invariant.before c.in_ok-put_line.ensures.ok;
    }
