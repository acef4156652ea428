use Rattle.std.proofs.Common.{◌∙◌, sym, refl, true≢false}
use Rattle.q_kernel.specs.Prelude.{slots}
use Rattle.q_eliminate.specs.Plans.{IsOuter}
use Rattle.q_eliminate.proofs.IdWalks.{live-at, all-more, all-done, all-at}
use Rattle.q_eliminate.proofs.conditions.are_outer.Goals as goal

pub loop-id-init : goal.loop-id-init
loop-id-init c a = a

pub clause_of-requires : goal.clause_of-requires
clause_of-requires c = live-at (slots c.args.kernel.now) c.args.ids.now c.loop-id.id-index c.requires.live c.loop-id-test.true

pub returns-then-not-is_outer : goal.returns-then-not-is_outer
returns-then-not-is_outer c = (
  (λ t. absurd (true≢false (sym t))),
  (λ a. absurd (true≢false (sym (c.is_outer.ensures.1 (all-at (IsOuter c.args.kernel.now.prefix c.args.x) (slots c.args.kernel.now) c.args.ids.now c.loop-id.id-index c.clause_of.result.now c.loop-id-test.true c.clause_of.ensures.clause a)) ∙ c.if-not-is_outer.true))),
)

pub loop-id-preserved : goal.loop-id-preserved
loop-id-preserved c = all-more (IsOuter c.args.kernel.now.prefix c.args.x) (slots c.args.kernel.now) c.args.ids.now c.loop-id.id-index c.clause_of.result.now c.loop-id-test.true c.clause_of.ensures.clause
    (c.is_outer.ensures.0 c.if-not-is_outer.false) c.loop-id.invariant

pub returns : goal.returns
returns c = ((λ t. all-done (IsOuter c.args.kernel.now.prefix c.args.x) (slots c.args.kernel.now) c.args.ids.now c.loop-id.id-index c.loop-id-test.false c.loop-id.invariant), (λ a. refl))
