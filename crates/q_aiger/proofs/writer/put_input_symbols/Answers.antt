use Rattle.std.proofs.Common.{refl}
use Rattle.q_logic.proofs.Common.{on_err}
use Rattle.q_aiger.proofs.UnwrittenTexts.{symbols-step, extends-append}
use Rattle.q_text.proofs.LongerTexts.{extends-more}
use Rattle.q_aiger.proofs.writer.put_input_symbols.Goals as goal

pub returns-in_err-put_symbol-clause-err : goal.returns-in_err-put_symbol-clause-err
returns-in_err-put_symbol-clause-err c = on_err c.from_residual.result (extends-more _ _ _ c.loop-place.invariant.before c.in_err-put_symbol.ensures.err)

pub loop-place-preserved : goal.loop-place-preserved
loop-place-preserved c = record {
  text = symbols-step _ _ _ 105 c.loop-place.place _ c.args.names.now c.in_ok-put_symbol.ensures.ok refl c.loop-place-test.true c.loop-place.invariant.text;
  before = extends-append _ _ _ _ c.loop-place.invariant.before c.in_ok-put_symbol.ensures.ok;
}
