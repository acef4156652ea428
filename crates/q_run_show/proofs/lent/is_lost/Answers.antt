use Rattle.std.proofs.Common.{◌∙◌, [], sym, arith}
use Rattle.std.proofs.lemmas.Option.{slice_get_within}
use Rattle.q_run_disprove.proofs.HintedSteps.{at-lost, lost-at, none-in}
use Rattle.q_run_show.proofs.lent.is_lost.Goals as goal

pub returns-then-is_empty-clause-yes : goal.returns-then-is_empty-clause-yes
returns-then-is_empty-clause-yes c t =
    at-lost c.args.formula.now.matrix c.loop-at.at c.clause.result.now c.clause.ensures.value (none-in c.clause.result.now (sym c.is_empty.ensures ∙ c.if-is_empty.true))

pub returns-clause-no : goal.returns-clause-no
returns-clause-no c e l =
    let i = lost-at c.args.formula.now.matrix l in
    let w = slice_get_within c.args.formula.now.matrix i.0 [] i.1 in
    c.loop-at.invariant i.0 (omega (arith, w, c.loop-at-test.false, c.clauses-at-end.ensures.value)) i.1
