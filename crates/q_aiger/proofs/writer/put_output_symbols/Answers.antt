use Rattle.std.proofs.Common.{arith, map}
use Rattle.q_logic.proofs.Common.{on_err}
use Rattle.q_aig.specs.Prelude.{output_of}
use Rattle.q_aiger.specs.Writing.{names_of}
use Rattle.q_aiger.proofs.UnwrittenTexts.{symbols-step, length-names, name-at, extends-append}
use Rattle.q_text.proofs.LongerTexts.{extends-more}
use Rattle.q_aiger.proofs.writer.put_output_symbols.Goals as goal

pub returns-in_err-put_symbol-clause-err : goal.returns-in_err-put_symbol-clause-err
returns-in_err-put_symbol-clause-err c = on_err c.from_residual.result (extends-more _ _ _ c.loop-place.invariant.before c.in_err-put_symbol.ensures.err)

pub loop-place-preserved : goal.loop-place-preserved
loop-place-preserved c =
    let len = length-names c.args.outputs.now in
    record {
      text = symbols-step _ _ _ 111 c.loop-place.place _ (names_of (map output_of c.args.outputs.now)) c.in_ok-put_symbol.ensures.ok (name-at c.args.outputs.now c.loop-place.place _ c.loop-place-test.true) (omega arith) c.loop-place.invariant.text;
      before = extends-append _ _ _ _ c.loop-place.invariant.before c.in_ok-put_symbol.ensures.ok;
    }
