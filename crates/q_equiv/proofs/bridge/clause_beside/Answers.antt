use Rattle.std.proofs.Common.{◌≡◌, ℕ, ◌∙◌, subst, inl, inr}
use Rattle.std.proofs.lemmas.Option.{same_Some}
use Rattle.q_kernel.specs.Prelude.{HoldsLiteral}
use Rattle.q_kernel.proofs.ForLoops.{holder-turn, each-came, All-more}
use Rattle.q_equiv.proofs.BridgeNeighbours.{IsOfBridge}
use Rattle.q_equiv.proofs.bridge.clause_beside.Goals as goal

pub loop-id-preserved : goal.loop-id-preserved
loop-id-preserved c =
    All-more (IsOfBridge c.args.bridge) c.loop-id.yielded c.in-Some.id c.loop-id.invariant (record { either = elim c.else-id-bridge.either [ inl a ↦ inr a.1 | inr a ↦ inl a ] })

pub returns-then-id-bridge-2-clause-some : goal.returns-then-id-bridge-2-clause-some
returns-then-id-bridge-2-clause-some c id e =
    let q : c.in-Some.id ≡ id = same_Some c.in-Some.id id e in
    let held = holder-turn _ _ _ c.holders-id-items.ensures.hold c.into_iter-id-iterator.ensures.into_iter_gives c.loop-id.yielded_by c.in-Some.ensures.steps in
    (λ f. c.if-id-bridge.true (q ∙ f), λ f. c.if-id-bridge-2.true (q ∙ f), subst (λ (x : ℕ). HoldsLiteral c.args.kernel.now x c.args.lit) q held)

pub returns-clause-none : goal.returns-clause-none
returns-clause-none c e d h =
    let b : IsOfBridge c.args.bridge d = each-came _ (IsOfBridge c.args.bridge) _ c.holders-id-items.ensures.all c.into_iter-id-iterator.ensures.into_iter_gives c.loop-id.yielded_by c.in-None.ensures.steps.0 c.loop-id.invariant d h in
    b.either
