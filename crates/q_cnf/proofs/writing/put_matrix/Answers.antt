use Rattle.std.proofs.Common.{◌++◌, ◌∙◌, ◌+◌, ap, sym, append_assoc, drop}
use Rattle.q_logic.proofs.Common.{on_err}
use Rattle.q_dimacs.specs.Writing.{clause_text, matrix_text}
use Rattle.q_dimacs.proofs.UnwrittenLists.{matrix-next}
use Rattle.q_text.proofs.LongerTexts.{extends-more, extends-append}
use Rattle.q_cnf.proofs.writing.put_matrix.Goals as goal

pub returns-in_err-put_clause-clause-err : goal.returns-in_err-put_clause-clause-err
returns-in_err-put_clause-clause-err c = on_err c.from_residual.result (extends-more _ _ _ c.loop-at.invariant.before c.in_err-put_clause.ensures.err)

pub loop-at-preserved : goal.loop-at-preserved
loop-at-preserved c =
    let put = c.in_ok-put_clause.ensures.ok in
    let mid = c.loop-at.text.items in
    let rest = matrix_text (drop (c.loop-at.at + 1) c.args.clauses.now) in
    let next = matrix-next c.args.clauses.now c.loop-at.at c.clause.result.now c.clause.ensures in
    record {
      text = ap (λ x. x ++ rest) put ∙ (append_assoc mid (clause_text c.clause.result.now) rest ∙ (ap (λ x. mid ++ x) (sym next) ∙ c.loop-at.invariant.text));
      before = rw put (extends-append _ mid (clause_text c.clause.result.now) c.loop-at.invariant.before);
    }
