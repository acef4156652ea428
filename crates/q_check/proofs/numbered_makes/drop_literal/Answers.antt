use Rattle.std.proofs.Common.{refl}
use Rattle.std.proofs.lemmas.Result.{err_from_is_err_and}
use Rattle.q_logic.proofs.Common.{test-false}
use Rattle.q_check.proofs.UnfitNumbered.{drop-unbound, drop-missing, drop-made}
use Rattle.q_check.proofs.numbered_makes.drop_literal.Goals as goal

pub returns-then-not-binds_all : goal.returns-then-not-binds_all
returns-then-not-binds_all c m t q =
    let b = rw c.scope.ensures at c.binds_all.ensures in
    rw c.refusal.ensures (refl, drop-unbound m c.args.book.now c.args.cut.now.lit c.args.cut.now.clause.now t (test-false c.binds_all.result b c.if-not-binds_all.true))

pub returns-then-not-is_clause : goal.returns-then-not-is_clause
returns-then-not-is_clause c m t q =
    let b = rw c.scope.ensures at c.binds_all.ensures in
    rw c.refusal-then-not-is_clause.ensures (refl, drop-missing m c.args.book.now c.args.cut.now.lit c.args.cut.now.clause.now t c.args.number q (b.0 c.if-not-binds_all.false) (test-false c.is_clause.result c.is_clause.ensures c.if-not-is_clause.true))

pub shorten-requires : goal.shorten-requires
shorten-requires c =
    record { there = c.is_clause.ensures.0 c.if-not-is_clause.false; ordered = c.requires.ordered; rest = (c.args.cut.now.lit, c.requires.rest) }

pub returns-in_err-shorten : goal.returns-in_err-shorten
returns-in_err-shorten c m t q =
    let r = err_from_is_err_and c.from_residual.result c.from_residual.ensures.1 in
    rw (r.1, r.2, c.in_err-shorten.ensures.err) refl

pub returns : goal.returns
returns c m t q =
    let b = rw c.scope.ensures at c.binds_all.ensures in
    rw c.in_ok-shorten.ensures.ok (drop-made m c.args.book.now c.args.cut.now.lit c.args.cut.now.clause.now t c.args.number c.args.cut.now.rest.now q c.requires.rest (b.0 c.if-not-binds_all.false) (c.is_clause.ensures.0 c.if-not-is_clause.false))
