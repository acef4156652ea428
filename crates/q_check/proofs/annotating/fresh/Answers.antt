use Rattle.std.proofs.Common.{refl}
use Rattle.std.proofs.lemmas.Result.{err_from_is_err_and}
use Rattle.q_logic.specs.Prelude.{live}
use Rattle.q_logic.proofs.Common.{test-false}
use Rattle.q_judge.proofs.TriedSteps.{fresh-refused}
use Rattle.q_check.proofs.annotating.fresh.Goals as goal

pub returns-then-not-takes_fresh : goal.returns-then-not-takes_fresh
returns-then-not-takes_fresh c =
    let F = c.args.book.now in
    let t = rw c.scope.ensures at c.takes_fresh.ensures in
    rw c.refusal.ensures (refl, fresh-refused c.args.limits F.prefix (live F.slots) c.args.v c.args.w (test-false c.takes_fresh.result t c.if-not-takes_fresh.true))

pub insert-requires : goal.insert-requires
insert-requires c =
    let t = rw c.scope.ensures at c.takes_fresh.ensures in
    let v = t.0 c.if-not-takes_fresh.false in
    record { absent = v.absent; there = v.behind }

pub returns-in_err-insert : goal.returns-in_err-insert
returns-in_err-insert c =
    let r = err_from_is_err_and c.from_residual.result c.from_residual.ensures.1 in
    rw (r.1, r.2, c.in_err-insert.ensures.err) refl

pub returns : goal.returns
returns c =
    let t = rw c.scope.ensures at c.takes_fresh.ensures in
    let v = t.0 c.if-not-takes_fresh.false in
    rw (c.in_ok-insert.ensures.ok, c.new.ensures) ((v, refl), refl, refl)
