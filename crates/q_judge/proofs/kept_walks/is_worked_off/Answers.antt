use Rattle.std.proofs.Common.{inl, inr}
use Rattle.q_logic.proofs.Common.{test-false}
use Rattle.q_judge.proofs.kept_walks.is_worked_off.Goals as goal

pub returns-then-holds : goal.returns-then-holds
returns-then-holds c t = inl (c.holds.ensures.0 c.if-holds.true)

pub returns : goal.returns
returns c t =
    let h = rw c.negated.ensures at c.holds-2.ensures in
    inr (test-false c.holds-2.result h c.if-holds-2.false, c.has_inner.ensures t)
