use Rattle.std.proofs.Common.{Err, refl, sym, subst}
use Rattle.std.proofs.lemmas.Result.{err_from_is_err_and}
use Rattle.q_logic.specs.Prelude.{NumberedFormula, drop_literal}
use Rattle.q_logic.proofs.Common.{test-false}
use Rattle.q_check.specs.Annotations.{IsAnnotated}
use Rattle.q_check.proofs.StepAnswers.{drop-unbound, drop-missing, drop-not_shown, drop-shown}
use Rattle.q_check.proofs.annotating.drop_literal.Goals as goal

pub returns-then-not-binds_all : goal.returns-then-not-binds_all
returns-then-not-binds_all c m =
    let F = c.args.book.now in
    let b = rw c.scope.ensures at c.binds_all.ensures in
    rw c.refusal.ensures (refl, drop-unbound m F.prefix F.slots c.args.cut.now.lit c.args.cut.now.clause.now (test-false c.binds_all.result b c.if-not-binds_all.true))

pub returns-in_default : goal.returns-in_default
returns-in_default c m =
    let F = c.args.book.now in
    let b = rw c.scope.ensures at c.binds_all.ensures in
    rw c.refusal-in_default.ensures (refl, drop-missing m F.prefix F.slots c.args.cut.now.lit c.args.cut.now.clause.now (b.0 c.if-not-binds_all.false) c.in_default.ensures)

pub show_drop-requires : goal.show_drop-requires
show_drop-requires c =
    let b = rw c.scope.ensures at c.binds_all.ensures in
    record { there = c.in-Some.ensures; within = b.0 c.if-not-binds_all.false; held = c.requires.held; rest = c.requires.rest }

pub returns-in_err-proof : goal.returns-in_err-proof
returns-in_err-proof c m =
    let F = c.args.book.now in
    let e = c.in_err-proof.field-0.0 in
    let r = err_from_is_err_and c.from_residual.result c.from_residual.ensures.1 in
    let b = rw c.scope.ensures at c.binds_all.ensures in
    let h = drop-not_shown m F.prefix F.slots c.in-Some.number c.args.cut.now.clause.now c.in-Some.ensures c.args.cut.now.lit e (b.0 c.if-not-binds_all.false) c.in_err-proof.ensures.shown in
    rw (r.1, r.2) (subst (λ (G : NumberedFormula). IsAnnotated m F (drop_literal c.args.cut.now.lit c.args.cut.now.clause.now) G (Err e)) (sym c.in_err-proof.ensures.same) h)

pub shorten-requires : goal.shorten-requires
shorten-requires c =
    record { there = rw c.in_ok-proof.ensures.same c.in-Some.ensures; ordered = c.requires.ordered; rest = (c.args.cut.now.lit, c.requires.rest) }

pub returns-in_err-shorten : goal.returns-in_err-shorten
returns-in_err-shorten c m =
    let r = err_from_is_err_and c.from_residual-in_err-shorten.result c.from_residual-in_err-shorten.ensures.1 in
    rw (r.1, r.2, c.in_err-shorten.ensures.err, c.in_ok-proof.ensures.same) refl

pub returns : goal.returns
returns c m =
    let F = c.args.book.now in
    let b = rw c.scope.ensures at c.binds_all.ensures in
    rw (c.in_ok-shorten.ensures.ok, c.in_ok-proof.ensures.same) (drop-shown m F.prefix F.slots c.in-Some.number c.args.cut.now.clause.now c.in-Some.ensures c.args.cut.now.lit c.in_ok-proof.proof c.args.cut.now.rest.now c.requires.rest (b.0 c.if-not-binds_all.false) c.in_ok-proof.ensures.shown)
