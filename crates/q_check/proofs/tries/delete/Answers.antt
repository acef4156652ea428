use Rattle.std.proofs.Common.{Err, subst}
use Rattle.q_logic.specs.Prelude.{Prefix, Slots, first_of}
use Rattle.std.proofs.lemmas.Result.{err_from_is_err_and}
use Rattle.q_judge.specs.Warrants.{IsSlotOf}
use Rattle.q_judge.proofs.TriedSteps.{delete-unfound}
use Rattle.q_check.proofs.tries.delete.Goals as goal

pub returns-in_err-at : goal.returns-in_err-at
returns-in_err-at c m =
    let L = c.args.ledger.now in
    let e = c.in_err-at.field-0.0 in
    let r = err_from_is_err_and c.from_residual.result c.from_residual.ensures.1 in
    let f = subst (λ (P : Prefix). IsSlotOf P L.slots c.args.clause.now (Err e)) c.scope.ensures (subst (λ (s : Slots). IsSlotOf c.scope.result.now s c.args.clause.now (Err e)) c.store.ensures c.in_err-at.ensures) in
    let h = delete-unfound c.args.keep m L.prefix L.slots (first_of c.args.lits.now) c.args.clause.now e f in
    rw (r.1, r.2) h

pub delete_noted-requires : goal.delete_noted-requires
delete_noted-requires c =
    let f = rw (c.scope.ensures, c.store.ensures) at c.in_ok-at.ensures in
    record { within = f.0; there = f.1; first = c.requires }

pub delete_permitted-requires : goal.delete_permitted-requires
delete_permitted-requires c =
    let f = rw (c.scope.ensures, c.store.ensures) at c.in_ok-at.ensures in
    record { within = f.0; there = f.1; first = c.requires }

pub returns-then-keep : goal.returns-then-keep
returns-then-keep c m = rw c.if-keep.true (c.delete_noted.ensures m)

pub returns-else-keep : goal.returns-else-keep
returns-else-keep c m = rw c.if-keep.false (c.delete_permitted.ensures m)
