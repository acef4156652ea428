use Rattle.std.proofs.Common.{refl, arith}
use Rattle.std.proofs.lemmas.Result.{err_from_is_err_and}
use Rattle.q_logic.specs.Prelude.{plain}
use Rattle.q_logic.proofs.Common.{test-false}
use Rattle.q_judge.proofs.TriedSteps.{add-entry}
use Rattle.q_check.proofs.HintCauses.{add-unbound, add-full, add-bad}
use Rattle.q_check.proofs.hinted.add.Goals as goal

pub returns-then-not-binds_all : goal.returns-then-not-binds_all
returns-then-not-binds_all c keep =
    let b = rw c.scope.ensures at c.binds_all.ensures in
    rw c.refusal.ensures (refl, add-unbound c.args.limits c.args.book.now c.args.named.now.first c.args.named.now.clause.now c.args.proof.now (test-false c.binds_all.result b c.if-not-binds_all.true))

pub returns-then-not-has_room : goal.returns-then-not-has_room
returns-then-not-has_room c keep =
    let b = rw c.scope.ensures at c.binds_all.ensures in
    rw c.refusal-then-not-has_room.ensures (refl, add-full c.args.limits c.args.book.now c.args.named.now.first c.args.named.now.clause.now c.args.proof.now (b.0 c.if-not-binds_all.false) (test-false c.has_room.result c.has_room.ensures c.if-not-has_room.true))

pub shows-requires-clause-within : goal.shows-requires-clause-within
shows-requires-clause-within c =
    let b = rw c.scope.ensures at c.binds_all.ensures in b.0 c.if-not-binds_all.false

pub returns-in_err-shown : goal.returns-in_err-shown
returns-in_err-shown c keep =
    let r = err_from_is_err_and c.from_residual.result c.from_residual.ensures.1 in
    rw (r.1, r.2, c.in_err-shown.ensures.same) refl

pub returns-then-not-shown : goal.returns-then-not-shown
returns-then-not-shown c keep =
    let b = rw c.scope.ensures at c.binds_all.ensures in
    rw (c.refusal-then-not-shown.ensures, c.in_ok-shown.ensures.same) (refl, add-bad c.args.limits c.args.book.now c.args.named.now.first c.args.named.now.clause.now c.args.proof.now (b.0 c.if-not-binds_all.false) (c.has_room.ensures.0 c.if-not-has_room.false) (test-false c.in_ok-shown.shown c.in_ok-shown.ensures.exact c.if-not-shown.true))

pub add-requires : goal.add-requires
add-requires c =
    let b = rw c.scope.ensures at c.binds_all.ensures in
    let k = c.has_room.ensures.0 c.if-not-has_room.false in
    rw c.in_ok-shown.ensures.same (record {
      ordered = c.requires.ordered;
      within = b.0 c.if-not-binds_all.false;
      few_clauses = omega (arith, k.clauses, c.requires.limits.clauses);
      few_lits = omega (arith, k.lits, c.requires.limits.lits);
    })

pub returns-in_err-add : goal.returns-in_err-add
returns-in_err-add c keep =
    let r = err_from_is_err_and c.from_residual-in_err-add.result c.from_residual-in_err-add.ensures.1 in
    rw (r.1, r.2, c.in_err-add.ensures.err, c.in_ok-shown.ensures.same) refl

pub returns : goal.returns
returns c keep =
    let b = rw c.scope.ensures at c.binds_all.ensures in
    rw (c.in_ok-add.ensures.ok, c.in_ok-shown.ensures.same) ((b.0 c.if-not-binds_all.false, c.in_ok-shown.ensures.exact.0 c.if-not-shown.false, c.has_room.ensures.0 c.if-not-has_room.false), refl, add-entry keep (plain c.args.book.now) c.args.named.now.first c.args.named.now.clause.now)
