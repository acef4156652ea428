use Rattle.std.proofs.Common.{refl}
use Rattle.q_logic.proofs.Common.{test-false}
use Rattle.q_check.proofs.HintCauses.{fresh-refused}
use Rattle.q_check.proofs.hinted.fresh.Goals as goal

pub returns-then-not-takes_fresh : goal.returns-then-not-takes_fresh
returns-then-not-takes_fresh c =
    let t = rw c.scope.ensures at c.takes_fresh.ensures in
    rw c.refusal.ensures (refl, fresh-refused c.args.settings.limits c.args.book.now c.args.v c.args.w c.args.proof.now (test-false c.takes_fresh.result t c.if-not-takes_fresh.true))

pub insert-requires : goal.insert-requires
insert-requires c =
    let t = rw c.scope.ensures at c.takes_fresh.ensures in
    let v = t.0 c.if-not-takes_fresh.false in
    record { absent = v.absent; there = v.behind }
