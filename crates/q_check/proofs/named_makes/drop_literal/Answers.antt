use Rattle.std.proofs.Common.{refl}
use Rattle.std.proofs.lemmas.Result.{err_from_is_err_and}
use Rattle.q_logic.proofs.Common.{test-false}
use Rattle.q_check.proofs.UnfitNumbered.{drop-unnamed, drop-unfound, drop-named}
use Rattle.q_check.proofs.named_makes.drop_literal.Goals as goal

pub returns-then-not-binds_all : goal.returns-then-not-binds_all
returns-then-not-binds_all c m =
    let b = rw c.scope.ensures at c.binds_all.ensures in
    rw c.refusal.ensures (refl, drop-unnamed m c.args.book.now c.args.cut.now.lit c.args.cut.now.clause.now (test-false c.binds_all.result b c.if-not-binds_all.true))

pub returns-in_default : goal.returns-in_default
returns-in_default c m =
    let b = rw c.scope.ensures at c.binds_all.ensures in
    rw c.refusal-in_default.ensures (refl, drop-unfound m c.args.book.now c.args.cut.now.lit c.args.cut.now.clause.now (b.0 c.if-not-binds_all.false) c.in_default.ensures)

pub shorten-requires : goal.shorten-requires
shorten-requires c =
    record { there = c.in-Some.ensures; ordered = c.requires.ordered; rest = (c.args.cut.now.lit, c.requires.rest) }

pub returns-in_err-shorten : goal.returns-in_err-shorten
returns-in_err-shorten c m =
    let r = err_from_is_err_and c.from_residual.result c.from_residual.ensures.1 in
    rw (r.1, r.2, c.in_err-shorten.ensures.err) refl

pub returns : goal.returns
returns c m =
    let b = rw c.scope.ensures at c.binds_all.ensures in
    rw c.in_ok-shorten.ensures.ok (drop-named m c.args.book.now c.args.cut.now.lit c.args.cut.now.clause.now c.args.cut.now.rest.now c.in-Some.number c.requires.rest (b.0 c.if-not-binds_all.false) c.in-Some.ensures)
