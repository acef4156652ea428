use Rattle.std.proofs.Common.{◌≡◌, ◌∙◌, ℕ, List, true, sym, subst}
use Rattle.q_logic.specs.Prelude.{Literal, negation, is_bound, live}
use Rattle.q_logic.proofs.Common.{existential-is_bound}
use Rattle.q_kernel.specs.Prelude.{slots, formula_in}
use Rattle.q_kernel.proofs.TextCosts.{proper-var}
use Rattle.q_eliminate.specs.Plans.{MayGo, IsPlanOf}
use Rattle.q_eliminate.specs.Sides.{AreIdsOf, AreSidesOf}
use Rattle.q_eliminate.proofs.EliminateConditions.{may-apply, apply-may}
use Rattle.q_eliminate.proofs.plan.make_plan.Goals as goal

pub new-lit-requires-clause-positive : goal.new-lit-requires-clause-positive
new-lit-requires-clause-positive c = (proper-var (formula_in c.args.kernel.now) c.args.x c.sound.ensures.proper (existential-is_bound c.args.kernel.now.prefix c.args.x (sym c.is_existential.ensures ∙ c.if-not-is_existential.false))).0

pub new-lit-requires-clause-small : goal.new-lit-requires-clause-small
new-lit-requires-clause-small c = (proper-var (formula_in c.args.kernel.now) c.args.x c.sound.ensures.proper (existential-is_bound c.args.kernel.now.prefix c.args.x (sym c.is_existential.ensures ∙ c.if-not-is_existential.false))).1

pub plan_on-requires-clause-bound : goal.plan_on-requires-clause-bound
plan_on-requires-clause-bound c = subst (λ (l : Literal). is_bound c.args.kernel.now.prefix l.var ≡ true) (sym c.new-lit.ensures)
    (existential-is_bound c.args.kernel.now.prefix c.args.x (sym c.is_existential.ensures ∙ c.if-not-is_existential.false))

pub plan_on-requires-clause-ids : goal.plan_on-requires-clause-ids
plan_on-requires-clause-ids c = subst (λ (ids : List ℕ). AreIdsOf c.args.kernel.now c.new-lit.result ids) (sym c.deref.ensures.value) c.in_ok-gather.ensures.positive

pub plan_on-requires-clause-others : goal.plan_on-requires-clause-others
plan_on-requires-clause-others c = subst (λ (ids : List ℕ). AreIdsOf c.args.kernel.now (negation c.new-lit.result) ids) (sym c.deref-2.ensures.value) c.in_ok-gather.ensures.negative

pub returns-clause-some : goal.returns-clause-some
returns-clause-some c p e =
    let k = c.args.kernel.now in
    let r = c.in_ok-found.ensures.some p e in (
      may-apply c.args.bounds.now k c.args.x (sym c.is_existential.ensures ∙ c.if-not-is_existential.false) (subst (λ (l : Literal). MayGo c.args.bounds.now.grow k.prefix (live (slots k)) l) c.new-lit.ensures r.0),
      subst (λ (l : Literal). IsPlanOf k l p) c.new-lit.ensures r.1,
      subst (λ (l : Literal). AreSidesOf k l c.gather.new.self) c.new-lit.ensures c.in_ok-gather.ensures,
    )

pub returns-clause-none : goal.returns-clause-none
returns-clause-none c e a =
    let k = c.args.kernel.now in
    c.in_ok-found.ensures.none e (subst (λ (l : Literal). MayGo c.args.bounds.now.grow k.prefix (live (slots k)) l) (sym c.new-lit.ensures) (apply-may c.args.bounds.now k c.args.x a))
