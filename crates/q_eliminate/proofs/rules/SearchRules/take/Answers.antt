use Rattle.std.proofs.Common.{sym, subst, rules}
use Rattle.q_logic.specs.Prelude.{positive}
use Rattle.q_logic.specs.Targets as theory
use Rattle.q_kernel.specs.Prelude.{Applies}
use Rattle.q_kernel.specs.declared.taken.Taken.TheVariants.{Yes}
use Rattle.q_rule.specs.Searching.{Tries}
use Rattle.q_rule.proofs.RuleAnswers.{tries-no, tries-yes}
use Rattle.q_rule.proofs.RuleResults.{applies-view}
use Rattle.q_eliminate.specs.Targets.{target_of}
use Rattle.q_eliminate.proofs.PlanChange.{plan-few, plan-view, sides-view}
use Rattle.q_eliminate.proofs.rules.SearchRules.take.Goals as goal

pub reserve-requires-clause-clauses : goal.reserve-requires-clause-clauses
reserve-requires-clause-clauses c =
    let r = c.in_ok-plan.ensures.some c.in-Some.plan c.in-Some.is in
    (plan-few c.args.bounds.now c.args.kernel.now c.variable-x.result c.in-Some.plan c.make_plan.new.search.sides r.0 r.1 r.2).0

pub reserve-requires-clause-lits : goal.reserve-requires-clause-lits
reserve-requires-clause-lits c =
    let r = c.in_ok-plan.ensures.some c.in-Some.plan c.in-Some.is in
    (plan-few c.args.bounds.now c.args.kernel.now c.variable-x.result c.in-Some.plan c.make_plan.new.search.sides r.0 r.1 r.2).1

pub take-requires-clause-applies : goal.take-requires-clause-applies
take-requires-clause-applies c =
    let r = c.in_ok-plan.ensures.some c.in-Some.plan c.in-Some.is in
    (c.args.bounds.now, applies-view c.args.bounds.now c.args.kernel.now c.reserve.new.kernel (theory.eliminate c.variable-x.result) c.in_ok-reserve.ensures.view r.0)

pub take-requires-clause-plan : goal.take-requires-clause-plan
take-requires-clause-plan c =
    let r = c.in_ok-plan.ensures.some c.in-Some.plan c.in-Some.is in
    plan-view c.args.kernel.now c.reserve.new.kernel (positive c.variable-x.result) c.in-Some.plan c.in_ok-reserve.ensures.view r.1

pub take-requires-clause-sides : goal.take-requires-clause-sides
take-requires-clause-sides c =
    let r = c.in_ok-plan.ensures.some c.in-Some.plan c.in-Some.is in
    sides-view c.args.kernel.now c.reserve.new.kernel (positive c.variable-x.result) c.make_plan.new.search.sides c.in_ok-reserve.ensures.view r.2

pub returns-in_default-clause-tries : goal.returns-in_default-clause-tries
returns-in_default-clause-tries c =
    let B = c.args.bounds.now in
    let k = c.args.kernel.now in
    tries-no B k (target_of c.args.target.now) (λ h. c.in_ok-plan.ensures.none c.in_default.is (subst (λ t. Applies B k t) c.variable-x.ensures h)) (search rules)

pub returns-clause-tries : goal.returns-clause-tries
returns-clause-tries c =
    let B = c.args.bounds.now in
    let k = c.args.kernel.now in
    let r = c.in_ok-plan.ensures.some c.in-Some.plan c.in-Some.is in
    subst (λ t. Tries B k c.take.new.kernel t Yes) (sym c.variable-x.ensures)
    (tries-yes B k c.reserve.new.kernel c.take.new.kernel (theory.eliminate c.variable-x.result) r.0 c.in_ok-reserve.ensures.view c.take.ensures)
