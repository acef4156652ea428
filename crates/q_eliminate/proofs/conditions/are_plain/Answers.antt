use Rattle.std.proofs.Common.{◌∙◌, sym, refl, true≢false}
use Rattle.q_kernel.specs.Prelude.{slots}
use Rattle.q_eliminate.specs.Plans.{IsPlain}
use Rattle.q_eliminate.proofs.IdWalks.{live-at, all-more, all-done, all-at}
use Rattle.q_eliminate.proofs.conditions.are_plain.Goals as goal

pub loop-id-init : goal.loop-id-init
loop-id-init c a = a

pub clause_of-requires : goal.clause_of-requires
clause_of-requires c = live-at (slots c.args.kernel.now) c.args.ids.now c.loop-id.id-index c.requires c.loop-id-test.true

pub returns-then-is_tautology : goal.returns-then-is_tautology
returns-then-is_tautology c = (
  (λ t. absurd (true≢false (sym t))),
  (λ a. absurd (all-at IsPlain (slots c.args.kernel.now) c.args.ids.now c.loop-id.id-index c.clause_of.result.now c.loop-id-test.true c.clause_of.ensures.clause a (c.is_tautology.ensures.0 c.if-is_tautology.true))),
)

pub loop-id-preserved : goal.loop-id-preserved
loop-id-preserved c = all-more IsPlain (slots c.args.kernel.now) c.args.ids.now c.loop-id.id-index c.clause_of.result.now c.loop-id-test.true c.clause_of.ensures.clause
    (λ t. true≢false (sym (c.is_tautology.ensures.1 t) ∙ c.if-is_tautology.false)) c.loop-id.invariant

pub returns : goal.returns
returns c = ((λ t. all-done IsPlain (slots c.args.kernel.now) c.args.ids.now c.loop-id.id-index c.loop-id-test.false c.loop-id.invariant), (λ a. refl))
