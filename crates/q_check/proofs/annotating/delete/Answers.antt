use Rattle.std.proofs.Common.{Err, refl, sym, subst}
use Rattle.std.proofs.lemmas.Result.{err_from_is_err_and}
use Rattle.q_logic.specs.Prelude.{NumberedFormula, delete}
use Rattle.q_logic.proofs.Common.{test-false}
use Rattle.q_check.specs.Annotations.{IsAnnotated}
use Rattle.q_check.proofs.StepAnswers.{delete-unbound, delete-missing, delete-not_shown, delete-shown}
use Rattle.q_check.proofs.annotating.delete.Goals as goal

pub returns-then-not-binds_all : goal.returns-then-not-binds_all
returns-then-not-binds_all c m =
    let F = c.args.book.now in
    let b = rw c.scope.ensures at c.binds_all.ensures in
    rw c.refusal.ensures (refl, delete-unbound m F.prefix F.slots c.args.named.now.first c.args.named.now.clause.now (test-false c.binds_all.result b c.if-not-binds_all.true))

pub returns-in_default : goal.returns-in_default
returns-in_default c m =
    let F = c.args.book.now in
    let b = rw c.scope.ensures at c.binds_all.ensures in
    rw c.refusal-in_default.ensures (refl, delete-missing m F.prefix F.slots c.args.named.now.first c.args.named.now.clause.now (b.0 c.if-not-binds_all.false) c.in_default.ensures)

pub show-requires : goal.show-requires
show-requires c =
    let b = rw c.scope.ensures at c.binds_all.ensures in
    record { within = b.0 c.if-not-binds_all.false; first = c.requires }

pub returns-in_err-proof : goal.returns-in_err-proof
returns-in_err-proof c m =
    let F = c.args.book.now in
    let e = c.in_err-proof.field-0.0 in
    let r = err_from_is_err_and c.from_residual.result c.from_residual.ensures.1 in
    let b = rw c.scope.ensures at c.binds_all.ensures in
    let h = delete-not_shown m F.prefix F.slots c.in-Some.number c.args.named.now.clause.now c.in-Some.ensures c.args.named.now.first e (b.0 c.if-not-binds_all.false) c.in_err-proof.ensures.shown in
    rw (r.1, r.2) (subst (λ (G : NumberedFormula). IsAnnotated m F (delete c.args.named.now.first c.args.named.now.clause.now) G (Err e)) (sym c.in_err-proof.ensures.same) h)

pub delete-requires : goal.delete-requires
delete-requires c = rw c.in_ok-proof.ensures.same c.in-Some.ensures

pub returns : goal.returns
returns c m =
    let F = c.args.book.now in
    let b = rw c.scope.ensures at c.binds_all.ensures in
    rw (c.delete.ensures, c.in_ok-proof.ensures.same) (delete-shown m F.prefix F.slots c.in-Some.number c.args.named.now.clause.now c.in-Some.ensures c.args.named.now.first c.in_ok-proof.proof (b.0 c.if-not-binds_all.false) c.in_ok-proof.ensures.shown)
