use Rattle.std.proofs.Common.{refl}
use Rattle.q_logic.proofs.Common.{test-false}
use Rattle.q_check.proofs.UnfitNumbered.{delete-unnamed, delete-unfound, deletion-named}
use Rattle.q_check.proofs.annotating.delete_named.Goals as goal

pub returns-then-not-binds_all : goal.returns-then-not-binds_all
returns-then-not-binds_all c m p =
    let b = rw c.scope.ensures at c.binds_all.ensures in
    rw c.refusal.ensures (refl, delete-unnamed m c.args.book.now p c.args.clause.now (test-false c.binds_all.result b c.if-not-binds_all.true))

pub returns-in_default : goal.returns-in_default
returns-in_default c m p =
    let b = rw c.scope.ensures at c.binds_all.ensures in
    rw c.refusal-in_default.ensures (refl, delete-unfound m c.args.book.now p c.args.clause.now (b.0 c.if-not-binds_all.false) c.in_default.ensures)

pub returns : goal.returns
returns c m p =
    let b = rw c.scope.ensures at c.binds_all.ensures in
    rw (c.delete.ensures, c.new.ensures) (deletion-named m c.args.book.now p c.args.clause.now c.in-Some.number (b.0 c.if-not-binds_all.false) c.in-Some.ensures)
