use Rattle.std.proofs.Common.{◌∙◌, sym, subst, true≢false, rules}
use Rattle.q_logic.specs.Prelude.{expand_universal}
use Rattle.q_kernel.specs.Prelude.{Applies}
use Rattle.q_kernel.specs.declared.taken.Taken.TheVariants.{Yes}
use Rattle.q_rule.specs.Searching.{Tries}
use Rattle.q_rule.proofs.RuleAnswers.{tries-no, tries-yes}
use Rattle.q_rule.proofs.RuleResults.{applies-view}
use Rattle.q_expand.specs.Targets.{target_of}
use Rattle.q_expand.proofs.DependentViews.{whole-view}
use Rattle.q_expand.proofs.rules.SearchRules.take.Goals as goal

pub reserve-requires-clause-applies : goal.reserve-requires-clause-applies
reserve-requires-clause-applies c = (c.args.bounds.now, c.in_ok-fits.ensures.applies.0 c.if-not-branch.false)

pub take-requires-clause-applies : goal.take-requires-clause-applies
take-requires-clause-applies c =
    let a = c.in_ok-fits.ensures.applies.0 c.if-not-branch.false in
    (c.args.bounds.now, applies-view c.args.bounds.now c.args.kernel.now c.reserve.new.kernel (expand_universal c.variable-u.result) c.in_ok-reserve.ensures.view a)

pub take-requires-clause-whole : goal.take-requires-clause-whole
take-requires-clause-whole c = whole-view c.args.kernel.now c.reserve.new.kernel c.in_ok-reserve.ensures.view c.variable-u.result c.fits.new.dependents (c.in_ok-fits.ensures.whole c.if-not-branch.false)

pub take-requires-clause-order : goal.take-requires-clause-order
take-requires-clause-order c = c.deref.ensures.value ∙ c.in_ok-read_order.ensures c.variable-u.result (whole-view c.args.kernel.now c.reserve.new.kernel c.in_ok-reserve.ensures.view c.variable-u.result c.fits.new.dependents (c.in_ok-fits.ensures.whole c.if-not-branch.false))

pub returns-then-not-branch-clause-tries : goal.returns-then-not-branch-clause-tries
returns-then-not-branch-clause-tries c =
    let B = c.args.bounds.now in
    let k = c.args.kernel.now in
    tries-no B k (target_of c.args.target.now) (λ a. true≢false (sym (c.in_ok-fits.ensures.applies.1 (subst (λ t. Applies B k t) c.variable-u.ensures a)) ∙ c.if-not-branch.true)) (search rules)

pub returns-clause-tries : goal.returns-clause-tries
returns-clause-tries c =
    let B = c.args.bounds.now in
    let k = c.args.kernel.now in
    subst (λ t. Tries B k c.take.new.kernel t Yes) (sym c.variable-u.ensures)
    (tries-yes B k c.reserve.new.kernel c.take.new.kernel (expand_universal c.variable-u.result) (c.in_ok-fits.ensures.applies.0 c.if-not-branch.false) c.in_ok-reserve.ensures.view c.take.ensures)
