use Rattle.std.proofs.Common.{refl}
use Rattle.q_logic.proofs.Common.{test-false}
use Rattle.q_check.proofs.UnfitNumbered.{delete-unbound, delete-missing, delete-made}
use Rattle.q_check.proofs.numbered_makes.delete.Goals as goal

pub returns-then-not-binds_all : goal.returns-then-not-binds_all
returns-then-not-binds_all c m p t q =
    let b = rw c.scope.ensures at c.binds_all.ensures in
    rw c.refusal.ensures (refl, delete-unbound m c.args.book.now p c.args.clause.now t (test-false c.binds_all.result b c.if-not-binds_all.true))

pub returns-then-not-is_clause : goal.returns-then-not-is_clause
returns-then-not-is_clause c m p t q =
    let b = rw c.scope.ensures at c.binds_all.ensures in
    rw c.refusal-then-not-is_clause.ensures (refl, delete-missing m c.args.book.now p c.args.clause.now t c.args.number q (b.0 c.if-not-binds_all.false) (test-false c.is_clause.result c.is_clause.ensures c.if-not-is_clause.true))

pub delete-requires : goal.delete-requires
delete-requires c = c.is_clause.ensures.0 c.if-not-is_clause.false

pub returns : goal.returns
returns c m p t q =
    let b = rw c.scope.ensures at c.binds_all.ensures in
    rw c.delete.ensures (delete-made m c.args.book.now p c.args.clause.now t c.args.number q (b.0 c.if-not-binds_all.false) (c.is_clause.ensures.0 c.if-not-is_clause.false))
