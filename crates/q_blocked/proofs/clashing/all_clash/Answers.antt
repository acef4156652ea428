use Rattle.std.proofs.Common.{All, refl, sym, subst, true≢false}
use Rattle.q_logic.specs.Prelude.{negation, Clause, IsIn}
use Rattle.std.proofs.lemmas.List.Elements.{All-contains}
use Rattle.q_logic.proofs.Common.{others-slot, test-false}
use Rattle.q_rule.proofs.IdClauses.{others-find, slot-one}
use Rattle.q_kernel.specs.Prelude.{slots}
use Rattle.q_kernel.proofs.ForLoops.{holder-turn, all-came, All-more}
use Rattle.q_blocked.specs.Walks.{ClashesAt}
use Rattle.q_blocked.proofs.clashing.all_clash.Goals as goal

pub passes-requires : goal.passes-requires
passes-requires c = rw c.negated.ensures at (holder-turn _ _ _ c.holders-d-items.ensures.hold c.into_iter-d-iterator.ensures.into_iter_gives c.loop-d.yielded_by c.in-Some.ensures.steps)

pub loop-d-preserved : goal.loop-d-preserved
loop-d-preserved c = All-more (ClashesAt c.args.kernel.now.prefix (slots c.args.kernel.now) c.args.c c.args.l c.args.set.now) c.loop-d.yielded c.in-Some.d c.loop-d.invariant (c.passes.ensures.0 c.if-not-passes.false)

pub returns-then-not-passes : goal.returns-then-not-passes
returns-then-not-passes c =
    let N = slots c.args.kernel.now in
    let held = rw c.negated.ensures at (holder-turn _ _ _ c.holders-d-items.ensures.hold c.into_iter-d-iterator.ensures.into_iter_gives c.loop-d.yielded_by c.in-Some.ensures.steps) in
    ((λ t. absurd (true≢false (sym t))), (λ z. absurd (test-false c.passes.result c.passes.ensures c.if-not-passes.true (record { each = λ D b. z D (others-slot N c.in-Some.d c.args.c D b.0 b.1) (subst (λ (E : Clause). IsIn (negation c.args.l) E) (slot-one N c.in-Some.d held.0 D held.1 b.1) held.2) }))))

pub returns : goal.returns
returns c =
    let N = slots c.args.kernel.now in
    let all = all-came _ c.into_iter-d-iterator.ensures.into_iter_gives c.loop-d.yielded_by c.in-None.ensures.steps.0 in
    let has = rw c.negated.ensures at c.holders-d-items.ensures.all in
    let f : All (ClashesAt c.args.kernel.now.prefix N c.args.c c.args.l c.args.set.now) c.holders-d-items.result = rw all at c.loop-d.invariant in
    ((λ t D m i. let d = others-find N c.args.c D m in (All-contains (ClashesAt c.args.kernel.now.prefix N c.args.c c.args.l c.args.set.now) c.holders-d-items.result d.0 f (has d.0 (D, d.2, i))).each D (d.1, d.2)), (λ t. refl))
