use Rattle.std.proofs.Common.{refl}
use Rattle.std.proofs.lemmas.Result.{err_from_is_err_and}
use Rattle.q_logic.proofs.Common.{test-false}
use Rattle.q_check.proofs.HintCauses.{delete-unbound, delete-missing, delete-bad}
use Rattle.q_check.proofs.hinted.delete.Goals as goal

pub returns-then-not-binds_all : goal.returns-then-not-binds_all
returns-then-not-binds_all c m =
    let b = rw c.scope.ensures at c.binds_all.ensures in
    rw c.refusal.ensures (refl, delete-unbound m c.args.book.now c.args.named.now.first c.args.named.now.clause.now c.args.proof.now (test-false c.binds_all.result b c.if-not-binds_all.true))

pub returns-then-not-is_clause : goal.returns-then-not-is_clause
returns-then-not-is_clause c m =
    let b = rw c.scope.ensures at c.binds_all.ensures in
    let i = rw c.number-number.ensures at c.is_clause.ensures in
    rw c.refusal-then-not-is_clause.ensures (refl, delete-missing m c.args.book.now c.args.named.now.first c.args.named.now.clause.now c.args.proof.now (b.0 c.if-not-binds_all.false) (test-false c.is_clause.result i c.if-not-is_clause.true))

pub shows-requires-clause-within : goal.shows-requires-clause-within
shows-requires-clause-within c =
    let b = rw c.scope.ensures at c.binds_all.ensures in b.0 c.if-not-binds_all.false

pub returns-in_err-shown : goal.returns-in_err-shown
returns-in_err-shown c m =
    let r = err_from_is_err_and c.from_residual.result c.from_residual.ensures.1 in
    rw (r.1, r.2, c.in_err-shown.ensures.same) refl

pub returns-then-not-shown : goal.returns-then-not-shown
returns-then-not-shown c m =
    let b = rw c.scope.ensures at c.binds_all.ensures in
    let i = rw c.number-number.ensures at c.is_clause.ensures in
    let e = rw c.number-number.ensures at c.in_ok-shown.ensures.exact in
    rw (c.refusal-then-not-shown.ensures, c.in_ok-shown.ensures.same) (refl, delete-bad m c.args.book.now c.args.named.now.first c.args.named.now.clause.now c.args.proof.now (b.0 c.if-not-binds_all.false) (i.0 c.if-not-is_clause.false) (test-false c.in_ok-shown.shown e c.if-not-shown.true))

pub deletion_entry-requires : goal.deletion_entry-requires
deletion_entry-requires c =
    let b = rw c.scope.ensures at c.binds_all.ensures in
    rw c.in_ok-shown.ensures.same (record {
      there = c.is_clause.ensures.0 c.if-not-is_clause.false;
      within = b.0 c.if-not-binds_all.false;
      shown = c.in_ok-shown.ensures.exact.0 c.if-not-shown.false;
    })

pub returns-in_err-entry : goal.returns-in_err-entry
returns-in_err-entry c m =
    let r = err_from_is_err_and c.from_residual-in_err-entry.result c.from_residual-in_err-entry.ensures.1 in
    rw (r.1, r.2, c.in_err-entry.ensures.same, c.in_ok-shown.ensures.same) refl

pub delete-requires : goal.delete-requires
delete-requires c =
    rw (c.in_ok-entry.ensures.same, c.in_ok-shown.ensures.same) (c.is_clause.ensures.0 c.if-not-is_clause.false)

pub returns : goal.returns
returns c m =
    let b = rw c.scope.ensures at c.binds_all.ensures in
    let i = rw c.number-number.ensures at c.is_clause.ensures in
    let e = rw c.number-number.ensures at c.in_ok-shown.ensures.exact in
    let u = rw c.in_ok-shown.ensures.same at c.in_ok-entry.ensures.exact in
    rw (c.delete.ensures, c.in_ok-entry.ensures.same, c.in_ok-shown.ensures.same, c.number-number.ensures) ((b.0 c.if-not-binds_all.false, i.0 c.if-not-is_clause.false, e.0 c.if-not-shown.false), refl, u)
