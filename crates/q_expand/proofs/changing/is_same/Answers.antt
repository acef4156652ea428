use Rattle.std.proofs.Common.{◌∙◌, true≢false, sym, refl}
use Rattle.q_expand.proofs.EqualClauses.{same-begun, same-more, same-all, same-not}
use Rattle.q_expand.proofs.changing.is_same.Goals as goal

pub loop-i-init : goal.loop-i-init
loop-i-init c = same-begun c.args.one.now c.args.other.now

pub loop-i-preserved : goal.loop-i-preserved
loop-i-preserved c = same-more c.args.one.now c.args.other.now c.loop-i.i c.index-one-i.result c.index-other-i.result c.loop-i-test.true c.index-one-i.is c.index-other-i.is (c.is.ensures.0 c.if-not-is.false) c.loop-i.invariant

pub returns : goal.returns
returns c = ((λ t. same-all c.args.one.now c.args.other.now c.loop-i.i c.if-one-other.false c.loop-i-test.false c.loop-i.invariant), (λ e. refl))

pub returns-then-not-is : goal.returns-then-not-is
returns-then-not-is c = (
  (λ t. absurd (true≢false (sym t))),
  (λ e. absurd (true≢false (sym (c.is.ensures.1 (same-not c.args.one.now c.args.other.now c.loop-i.i c.index-one-i.result c.index-other-i.result c.loop-i-test.true c.index-one-i.is c.index-other-i.is e)) ∙ c.if-not-is.true))),
)
