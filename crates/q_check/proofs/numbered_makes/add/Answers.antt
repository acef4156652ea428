use Rattle.std.proofs.Common.{refl, arith}
use Rattle.std.proofs.lemmas.Result.{err_from_is_err_and}
use Rattle.q_logic.proofs.Common.{test-false}
use Rattle.q_check.proofs.UnfitNumbered.{add-unbound, add-full}
use Rattle.q_check.proofs.numbered_makes.add.Goals as goal

pub returns-then-not-binds_all : goal.returns-then-not-binds_all
returns-then-not-binds_all c p t =
    let b = rw c.scope.ensures at c.binds_all.ensures in
    rw c.refusal.ensures (refl, add-unbound c.args.limits c.args.book.now p c.args.clause.now t (test-false c.binds_all.result b c.if-not-binds_all.true))

pub returns-then-not-has_room : goal.returns-then-not-has_room
returns-then-not-has_room c p t =
    let b = rw c.scope.ensures at c.binds_all.ensures in
    rw c.refusal-then-not-has_room.ensures (refl, add-full c.args.limits c.args.book.now p c.args.clause.now t (b.0 c.if-not-binds_all.false) (test-false c.has_room.result c.has_room.ensures c.if-not-has_room.true))

pub add-requires : goal.add-requires
add-requires c =
    let b = rw c.scope.ensures at c.binds_all.ensures in
    let k = c.has_room.ensures.0 c.if-not-has_room.false in
    record {
      ordered = c.requires.ordered;
      within = b.0 c.if-not-binds_all.false;
      few_clauses = omega (arith, k.clauses, c.requires.limits.clauses);
      few_lits = omega (arith, k.lits, c.requires.limits.lits);
    }

pub returns-in_err-add : goal.returns-in_err-add
returns-in_err-add c p t =
    let r = err_from_is_err_and c.from_residual.result c.from_residual.ensures.1 in
    rw (r.1, r.2, c.in_err-add.ensures.err) refl

pub returns : goal.returns
returns c p t =
    let b = rw c.scope.ensures at c.binds_all.ensures in
    rw c.in_ok-add.ensures.ok ((b.0 c.if-not-binds_all.false, c.has_room.ensures.0 c.if-not-has_room.false), refl)
