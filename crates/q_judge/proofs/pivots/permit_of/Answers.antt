use Rattle.std.proofs.Common.{inr}
use Rattle.std.proofs.lemmas.Result.{err_from_is_err_and}
use Rattle.q_prop.specs.Slots.{filled, without}
use Rattle.q_judge.proofs.TriedSteps.{warranted}
use Rattle.q_judge.proofs.pivots.permit_of.Goals as goal

pub returns-then-branch-clause-ok : goal.returns-then-branch-clause-ok
returns-then-branch-clause-ok c = inr (rw c.new-view.ensures at (c.in_ok-is_evident_first.ensures c.if-branch.true))

pub returns-in_err-warrant_of-clause-refused : goal.returns-in_err-warrant_of-clause-refused
returns-in_err-warrant_of-clause-refused c =
    let r = err_from_is_err_and c.from_residual-in_err-warrant_of.result c.from_residual-in_err-warrant_of.ensures.1 in
    rw (r.1, r.2) c.in_err-warrant_of.ensures.exact

pub returns-clause-ok : goal.returns-clause-ok
returns-clause-ok c = warranted c.args.scope.now (filled (without c.args.store.now c.args.candidate.now.skip)) c.args.candidate.now.first c.args.candidate.now.clause.now c.in_ok-warrant_of.field-0 c.in_ok-warrant_of.ensures.exact
