use Rattle.std.proofs.Common.{Err, subst}
use Rattle.std.proofs.lemmas.Result.{err_from_is_err_and}
use Rattle.q_logic.specs.Prelude.{Prefix, Slots}
use Rattle.q_judge.specs.Warrants.{IsSlotOf}
use Rattle.q_judge.proofs.SlotCollections.{held-in}
use Rattle.q_judge.proofs.TriedSteps.{delete-after}
use Rattle.q_check.proofs.UnfitSteps.{delete-unfound}
use Rattle.q_check.proofs.makes.delete.Goals as goal

pub returns-in_err-at-clause-refused : goal.returns-in_err-at-clause-refused
returns-in_err-at-clause-refused c =
    let L = c.args.ledger.now in
    let e = c.in_err-at.field-0.0 in
    let r = err_from_is_err_and c.from_residual.result c.from_residual.ensures.1 in
    let f = subst (λ (P : Prefix). IsSlotOf P L.slots c.args.clause.now (Err e)) c.scope.ensures (subst (λ (s : Slots). IsSlotOf c.scope.result.now s c.args.clause.now (Err e)) c.store.ensures c.in_err-at.ensures) in
    rw (r.1, r.2) (delete-unfound L.prefix L.slots c.args.clause.now e f)

pub returns-clause-fit : goal.returns-clause-fit
returns-clause-fit c m p =
    let f = rw (c.scope.ensures, c.store.ensures) at c.in_ok-at.ensures in
    (f.0, held-in c.args.ledger.now.slots c.in_ok-at.at c.args.clause.now f.1)

pub returns-clause-after : goal.returns-clause-after
returns-clause-after c p =
    let L = c.args.ledger.now in
    let f = rw (c.scope.ensures, c.store.ensures) at c.in_ok-at.ensures in
    rw c.delete.ensures (delete-after L.prefix L.slots c.in_ok-at.at c.args.clause.now f.1 p)
