use Rattle.std.proofs.Common.{Contains, inr}
use Rattle.q_prop.proofs.KeptRoot.{given_support}
use Rattle.q_prop.proofs.SlotLemmas.{test_fails}
use Rattle.q_prop.proofs.watches.is_free.Goals as goal

pub returns-then-is_left : goal.returns-then-is_left
returns-then-is_left c _ d here =
    let known = c.args.trail.now in
    let open' = test_fails c.has.result (Contains known c.negated.result) c.has.ensures c.if-not-has.true in
    inr (inr (given_support c.args.clauses.now.slots c.args.at c.in-Doubled.lit c.in-Doubled.other known (rw c.in-Doubled.is at c.requires) (rw c.negated.ensures at open') (c.is_left.ensures c.if-is_left.true)))
