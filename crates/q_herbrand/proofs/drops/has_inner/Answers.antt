use Rattle.std.proofs.Common.{◌≡◌, ◌∙◌, sym, refl, subst, inl, inr, true, true≢false}
use Rattle.q_logic.specs.Prelude.{Literal, inner_existential}
use Rattle.q_logic.proofs.Common.{item-in, taken-cases, taken-all}
use Rattle.q_herbrand.proofs.drops.has_inner.Goals as goal

pub returns-then-is_inner : goal.returns-then-is_inner
returns-then-is_inner c =
    let m = item-in c.args.clause.now c.loop-k.k-index c.k-item.result c.loop-k-test.true c.k-item.is in
    let e = rw c.var.ensures.value at c.is_inner.ensures in
    ((λ t. (c.k-item.result, m, sym e ∙ c.if-is_inner.true)), (λ t. refl))

pub loop-k-preserved : goal.loop-k-preserved
loop-k-preserved c (j, m, i) =
    elim (taken-cases c.args.clause.now c.loop-k.k-index c.k-item.result j c.loop-k-test.true c.k-item.is m) [
      | inl a ↦ c.loop-k.invariant (j, a, i)
      | inr e ↦
          let b = rw c.var.ensures.value at c.is_inner.ensures in
          let t : inner_existential c.args.scope.now c.args.var c.k-item.result.var ≡ true =
          subst (λ (k : Literal). inner_existential c.args.scope.now c.args.var k.var ≡ true) e i in
          true≢false (sym t ∙ sym b ∙ c.if-is_inner.false)
    ]

pub returns : goal.returns
returns c =
    let v = rw (taken-all c.args.clause.now c.loop-k.k-index c.loop-k-test.false) at c.loop-k.invariant in
    ((λ t. absurd (true≢false (sym t))), (λ h. absurd (v h)))
