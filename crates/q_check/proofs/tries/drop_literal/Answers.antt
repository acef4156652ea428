use Rattle.std.proofs.Common.{Err, refl, subst}
use Rattle.q_logic.specs.Prelude.{Prefix, Slots}
use Rattle.std.proofs.lemmas.Result.{err_from_is_err_and}
use Rattle.q_prop.specs.Slots.{filled}
use Rattle.q_judge.specs.Warrants.{IsSlotOf}
use Rattle.q_logic.proofs.Common.{test-false}
use Rattle.q_judge.proofs.TriedSteps.{of, drop-unfound, drop-refused, drop-valid, drop-after, drop-entry}
use Rattle.q_check.proofs.tries.drop_literal.Goals as goal

pub returns-in_err-at : goal.returns-in_err-at
returns-in_err-at c keep m =
    let L = c.args.ledger.now in
    let e = c.in_err-at.field-0.0 in
    let r = err_from_is_err_and c.from_residual.result c.from_residual.ensures.1 in
    let f = subst (λ (P : Prefix). IsSlotOf P L.slots c.args.clause.now (Err e)) c.scope.ensures (subst (λ (s : Slots). IsSlotOf c.scope.result.now s c.args.clause.now (Err e)) c.store.ensures c.in_err-at.ensures) in
    let h = drop-unfound keep m L.prefix L.slots c.args.lit c.args.clause.now e f in
    rw (r.1, r.2) h

pub is_droppable-requires-clause-within : goal.is_droppable-requires-clause-within
is_droppable-requires-clause-within c =
    let f = rw (c.scope.ensures, c.store.ensures) at c.in_ok-at.ensures in f.0

pub returns-in_err-droppable : goal.returns-in_err-droppable
returns-in_err-droppable c keep m =
    let r = err_from_is_err_and c.from_residual-in_err-droppable.result c.from_residual-in_err-droppable.ensures.1 in
    rw (r.1, r.2, c.in_err-droppable.ensures.same) refl

pub returns-then-not-droppable : goal.returns-then-not-droppable
returns-then-not-droppable c keep m =
    let L = c.args.ledger.now in
    let f = rw (c.scope.ensures, c.store.ensures) at c.in_ok-at.ensures in
    rw (c.refusal.ensures, c.in_ok-droppable.ensures.same) (refl, drop-refused L.prefix L.slots c.in_ok-at.at c.args.clause.now f.1 m c.args.lit f.0 (test-false c.in_ok-droppable.droppable c.in_ok-droppable.ensures.exact c.if-not-droppable.true))

pub shorten-requires : goal.shorten-requires
shorten-requires c =
    let f = rw (c.scope.ensures, c.store.ensures) at c.in_ok-at.ensures in
    record { there = rw c.in_ok-droppable.ensures.same f.1; ordered = c.requires.ordered; rest = (c.args.lit, c.requires.rest) }

pub returns-in_err-shorten : goal.returns-in_err-shorten
returns-in_err-shorten c keep m =
    let r = err_from_is_err_and c.from_residual-in_err-shorten.result c.from_residual-in_err-shorten.ensures.1 in
    rw (r.1, r.2, c.in_err-shorten.ensures.err, c.in_ok-droppable.ensures.same) refl

pub returns : goal.returns
returns c keep m =
    let L = c.args.ledger.now in
    let C = c.args.clause.now in
    let n = c.in_ok-at.at in
    let f = rw (c.scope.ensures, c.store.ensures) at c.in_ok-at.ensures in
    let v = drop-valid L.prefix L.slots n C f.1 m c.args.lit f.0 (c.in_ok-droppable.ensures.exact.0 c.if-not-droppable.false) in
    let r = rw (c.in_ok-droppable.ensures.same, c.requires.rest) at c.in_ok-shorten.ensures.ok in
    rw r.2 (v, drop-after L.prefix L.slots r.0 n c.in_ok-shorten.field-0 c.args.lit C f.1 r.1, drop-entry keep (of L.prefix (filled L.slots)) c.args.lit C)
