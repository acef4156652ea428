use Rattle.std.proofs.Common.{take, take_all, Contains, arith}
use Rattle.q_prop.proofs.SlotLemmas.{test_fails}
use Rattle.q_prop.proofs.ListMembers.{Contains-take}
use Rattle.q_logic.specs.Prelude.{negation}
use Rattle.q_logic.proofs.Common.{taken}
use Rattle.q_prop.proofs.HintSteps.{left-known, left-one, left-open, item-in}
use Rattle.q_prop.proofs.chain.left_of.Goals as goal

pub loop-lit-preserved-then-has : goal.loop-lit-preserved-then-has
loop-lit-preserved-then-has c =
    let m : Contains c.args.trail.now (negation c.lit-item.result) = rw c.negated.ensures at (c.has.ensures.0 c.if-has.true) in
    rw (taken c.args.clause.now c.loop-lit.lit-index c.lit-item.result c.loop-lit-test.true c.lit-item.is)
    (left-known c.args.trail.now (take c.loop-lit.lit-index c.args.clause.now) c.loop-lit.left c.lit-item.result c.loop-lit.invariant m)

pub returns-then-is_other : goal.returns-then-is_other
returns-then-is_other c =
    left-open c.args.trail.now (take c.loop-lit.lit-index c.args.clause.now) c.args.clause.now c.loop-lit.left c.lit-item.result c.loop-lit.invariant
    c.if-is_other.ensures
    (rw c.negated.ensures at (test_fails c.has.result (Contains c.args.trail.now c.negated.result) c.has.ensures c.if-has.false))
    (λ k m. Contains-take c.args.clause.now c.loop-lit.lit-index k m)
    (item-in c.args.clause.now c.loop-lit.lit-index c.lit-item.result c.loop-lit-test.true c.lit-item.is)

pub loop-lit-preserved : goal.loop-lit-preserved
loop-lit-preserved c =
    rw (taken c.args.clause.now c.loop-lit.lit-index c.lit-item.result c.loop-lit-test.true c.lit-item.is)
    (left-one c.args.trail.now (take c.loop-lit.lit-index c.args.clause.now) c.loop-lit.left c.lit-item.result c.loop-lit.invariant c.if-is_other.ensures
    (rw c.negated.ensures at (test_fails c.has.result (Contains c.args.trail.now c.negated.result) c.has.ensures c.if-has.false)))

pub returns : goal.returns
returns c =
    rw c.as_left.ensures (rw (take_all c.loop-lit.lit-index c.args.clause.now (omega arith)) at c.loop-lit.invariant)
