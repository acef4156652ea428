use Rattle.std.proofs.Common.{ℕ, sym, subst, true≢false}
use Rattle.q_logic.specs.Prelude.{Literal, IsIn}
use Rattle.q_logic.proofs.Common.{test-false}
use Rattle.std.specs.Prelude.{◌↔◌, IsTrue}
use Rattle.q_herbrand.specs.Drops.{HasInner}
use Rattle.q_herbrand.proofs.DropKinds.{inner-not_plain, plain-test}
use Rattle.q_herbrand.proofs.drops.is_plain.Goals as goal

pub returns-then-has_inner : goal.returns-then-has_inner
returns-then-has_inner c =
    let h : HasInner c.args.scope.now c.args.clause.now c.args.lit.var =
    subst (λ (u : ℕ). HasInner c.args.scope.now c.args.clause.now u) c.var.ensures.value
    (c.has_inner.ensures.0 c.if-has_inner.true) in
    ((λ t. absurd (true≢false (sym t))), (λ p. absurd (inner-not_plain c.args.scope.now c.args.clause.now c.args.lit h p)))

pub returns : goal.returns
returns c =
    let n = subst (λ (u : ℕ). HasInner c.args.scope.now c.args.clause.now u → ⊥) c.var.ensures.value
    (test-false c.has_inner.result c.has_inner.ensures c.if-has_inner.false) in
    let h = subst (λ (k : Literal). IsTrue c.holds.result ↔ IsIn k c.args.clause.now) c.negated.ensures c.holds.ensures in
    plain-test c.args.scope.now c.args.clause.now c.args.lit c.holds.result n h
