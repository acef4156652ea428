use Rattle.std.proofs.Common.{Err, refl, sym, subst, arith}
use Rattle.std.proofs.lemmas.Result.{err_from_is_err_and}
use Rattle.q_logic.specs.Prelude.{NumberedFormula, live, add}
use Rattle.q_logic.proofs.Common.{test-false}
use Rattle.q_judge.proofs.TriedSteps.{add-unbound, add-roomless}
use Rattle.q_check.specs.Annotations.{IsAnnotated}
use Rattle.q_check.proofs.StepAnswers.{add-not_shown, shown-warranted, add-shown}
use Rattle.q_check.proofs.annotating.add.Goals as goal

pub returns-then-not-binds_all : goal.returns-then-not-binds_all
returns-then-not-binds_all c =
    let F = c.args.book.now in
    let b = rw c.scope.ensures at c.binds_all.ensures in
    rw c.refusal.ensures (refl, add-unbound c.args.limits F.prefix (live F.slots) c.args.named.now.first c.args.named.now.clause.now (test-false c.binds_all.result b c.if-not-binds_all.true))

pub show-requires : goal.show-requires
show-requires c =
    let b = rw c.scope.ensures at c.binds_all.ensures in
    record { within = b.0 c.if-not-binds_all.false; first = c.requires.first }

pub returns-in_err-proof : goal.returns-in_err-proof
returns-in_err-proof c =
    let F = c.args.book.now in
    let e = c.in_err-proof.field-0.0 in
    let r = err_from_is_err_and c.from_residual.result c.from_residual.ensures.1 in
    let b = rw c.scope.ensures at c.binds_all.ensures in
    let h = add-not_shown c.args.limits F.prefix F.slots c.args.named.now.first c.args.named.now.clause.now e (b.0 c.if-not-binds_all.false) c.in_err-proof.ensures.shown in
    rw (r.1, r.2) (subst (λ (G : NumberedFormula). IsAnnotated c.args.limits F (add c.args.named.now.first c.args.named.now.clause.now) G (Err e)) (sym c.in_err-proof.ensures.same) h)

pub returns-then-not-has_room : goal.returns-then-not-has_room
returns-then-not-has_room c =
    let F = c.args.book.now in
    let b = rw c.scope.ensures at c.binds_all.ensures in
    let w = b.0 c.if-not-binds_all.false in
    let v = shown-warranted F.prefix F.slots c.args.named.now.first c.args.named.now.clause.now 0 c.in_ok-proof.proof c.in_ok-proof.ensures.shown in
    let o = rw c.in_ok-proof.ensures.same at c.has_room.ensures in
    rw (c.refusal-then-not-has_room.ensures, c.in_ok-proof.ensures.same) (refl, add-roomless c.args.limits F.prefix (live F.slots) c.args.named.now.first c.args.named.now.clause.now w v (test-false c.has_room.result o c.if-not-has_room.true))

pub add-requires : goal.add-requires
add-requires c =
    let b = rw c.scope.ensures at c.binds_all.ensures in
    let k = c.has_room.ensures.0 c.if-not-has_room.false in
    record {
      ordered = c.requires.ordered;
      within = rw c.in_ok-proof.ensures.same (b.0 c.if-not-binds_all.false);
      few_clauses = omega (arith, k.clauses, c.requires.limits.clauses);
      few_lits = omega (arith, k.lits, c.requires.limits.lits);
    }

pub returns-in_err-add : goal.returns-in_err-add
returns-in_err-add c =
    let r = err_from_is_err_and c.from_residual-in_err-add.result c.from_residual-in_err-add.ensures.1 in
    rw (r.1, r.2, c.in_err-add.ensures.err, c.in_ok-proof.ensures.same) refl

pub returns : goal.returns
returns c =
    let F = c.args.book.now in
    let b = rw c.scope.ensures at c.binds_all.ensures in
    let k = rw c.in_ok-proof.ensures.same at (c.has_room.ensures.0 c.if-not-has_room.false) in
    rw (c.in_ok-add.ensures.ok, c.in_ok-proof.ensures.same) (add-shown c.args.limits F.prefix F.slots c.args.named.now.first c.args.named.now.clause.now c.in_ok-proof.proof (b.0 c.if-not-binds_all.false) k c.in_ok-proof.ensures.shown)
