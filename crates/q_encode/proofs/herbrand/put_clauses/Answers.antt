use Rattle.std.proofs.Common.{◌++◌, ◌∷◌, [], ◌+◌, ◌∙◌, ap, sym, drop}
use Rattle.q_logic.specs.Prelude.{Clause, Matrix, clause_of}
use Rattle.q_miter.specs.Miters.{translated_clause, translated_matrix, in_order}
use Rattle.q_encode.proofs.MadeRows.{put-more, translated-next}
use Rattle.q_encode.proofs.herbrand.put_clauses.Goals as goal

pub loop-at-preserved : goal.loop-at-preserved
loop-at-preserved c top cert h =
    let e = c.in_ok-translate.ensures top cert h in
    let part : Matrix = clause_of (translated_clause top cert c.clause.result.now) ∷ [] in
    let rest = in_order (translated_matrix top cert (drop (c.loop-at.at + 1) c.args.formula.now.matrix)) in
    put-more c.loop-at.rows c.put.new.self _ part rest
    (c.in_ok-put.ensures ∙ ap (λ (C : Clause). c.loop-at.rows ++ clause_of C ∷ []) (c.deref.ensures.value ∙ e))
    (ap (λ (X : Matrix). c.loop-at.rows ++ X) (sym (translated-next top cert c.args.formula.now.matrix c.loop-at.at c.clause.result.now c.clause.ensures.value)) ∙
    c.loop-at.invariant top cert h)
