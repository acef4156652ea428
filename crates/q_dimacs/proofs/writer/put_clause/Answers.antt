use Rattle.std.proofs.Common.{◌+◌, ◌≤◌, arith, map, length, length-append}
use Rattle.q_logic.specs.Prelude.{number_of}
use Rattle.q_logic.proofs.Common.{on_err}
use Rattle.q_text.specs.Numbers.{number_text, numbers_text, line_end}
use Rattle.q_dimacs.proofs.UnwrittenLists.{literal-next, next-fits}
use Rattle.q_text.proofs.LongerTexts.{extends-more}
use Rattle.q_dimacs.proofs.writer.put_clause.Goals as goal

pub returns-in_err-put_literal-clause-err : goal.returns-in_err-put_literal-clause-err
returns-in_err-put_literal-clause-err c = on_err c.from_residual.result (extends-more _ _ _ c.loop-lit.invariant.before c.in_err-put_literal.ensures.err)

pub returns-in_err-put_literal-clause-room : goal.returns-in_err-put_literal-clause-room
returns-in_err-put_literal-clause-room c = λ h.
    let next = literal-next c.args.lits.now c.loop-lit.lit-index c.lit-item.result c.loop-lit-test.true in
    let fits : length c.loop-lit.text.items + length (number_text (number_of c.lit-item.result)) ≤ length c.args.text.now.items + length (numbers_text (map number_of c.args.lits.now)) =
    next-fits _ _ _ _ _ _ c.loop-lit.invariant.text (rw (← c.lit-item.is) at next) in
    let line = length-append (numbers_text (map number_of c.args.lits.now)) line_end in
    let full = c.in_err-put_literal.ensures.room (omega (arith, c.loop-lit.text.ok.0, c.args.text.now.ok.0)) in
    absurd (cc)
