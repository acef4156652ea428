use Rattle.std.proofs.Common.{◌++◌, ◌∙◌, ◌+◌, ap, sym, append_assoc, drop, ◌≤◌, length, arith}
use Rattle.q_logic.proofs.Common.{on_err}
use Rattle.q_dimacs.specs.Writing.{clause_text, matrix_text}
use Rattle.q_dimacs.proofs.UnwrittenLists.{matrix-next, next-fits}
use Rattle.q_text.proofs.LongerTexts.{extends-more, extends-append}
use Rattle.q_dimacs.proofs.writer.put_matrix.Goals as goal

pub returns-in_err-put_clause-clause-err : goal.returns-in_err-put_clause-clause-err
returns-in_err-put_clause-clause-err c = on_err c.from_residual.result (extends-more _ _ _ c.loop-at.invariant.before c.in_err-put_clause.ensures.err)

pub loop-at-preserved : goal.loop-at-preserved
loop-at-preserved c =
    let put = c.in_ok-put_clause.ensures.ok in
    let mid = c.loop-at.text.items in
    let rest = matrix_text (drop (c.loop-at.at + 1) c.args.formula.now.matrix) in
    let next = matrix-next c.args.formula.now.matrix c.loop-at.at c.clause.result.now c.clause.ensures.value in
    record {
      text = ap (λ x. x ++ rest) put ∙ (append_assoc mid (clause_text c.clause.result.now) rest ∙ (ap (λ x. mid ++ x) (sym next) ∙ c.loop-at.invariant.text));
      before = rw put (extends-append _ mid (clause_text c.clause.result.now) c.loop-at.invariant.before);
      capacity = omega arith;
    }

pub returns-in_err-put_clause-clause-room : goal.returns-in_err-put_clause-clause-room
returns-in_err-put_clause-clause-room c = λ h.
    let next = matrix-next c.args.formula.now.matrix c.loop-at.at c.clause.result.now c.clause.ensures.value in
    let fits : length c.loop-at.text.items + length (clause_text c.clause.result.now) ≤ length c.args.text.now.items + length (matrix_text c.args.formula.now.matrix) =
    next-fits _ _ _ _ _ _ c.loop-at.invariant.text next in
    let full = c.in_err-put_clause.ensures.room (omega (arith, c.loop-at.text.ok.0, c.args.text.now.ok.0)) in
    absurd (cc)
