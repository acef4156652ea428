use Rattle.std.proofs.Common.{subst, sym, inl, inr}
use Rattle.std.proofs.lemmas.Option.{same_Some}
use Rattle.q_logic.specs.Prelude.{Literal, Clause, IsIn, IsSubset}
use Rattle.q_logic.proofs.Common.{item-in, taken-cases, taken-all, test-false}
use Rattle.q_blocked.proofs.hidden.outside.Goals as goal

pub loop-k-init : goal.loop-k-init
loop-k-init c k m = absurd m

pub returns-then-not-has-clause-some : goal.returns-then-not-has-clause-some
returns-then-not-has-clause-some c k e =
    let q = same_Some c.k-item.result k e in
    let m = item-in c.args.clause.now c.loop-k.k-index c.k-item.result c.loop-k-test.true c.k-item.is in
    (subst (λ (x : Literal). IsIn x c.args.clause.now) q m, λ i. test-false c.has.result c.has.ensures c.if-not-has.true (subst (λ (x : Literal). IsIn x c.args.set.now) (sym q) i))

pub loop-k-preserved : goal.loop-k-preserved
loop-k-preserved c k m = elim (taken-cases c.args.clause.now c.loop-k.k-index c.k-item.result k c.loop-k-test.true c.k-item.is m) [
  | inl a ↦ c.loop-k.invariant k a
  | inr e ↦ subst (λ (x : Literal). IsIn x c.args.set.now) (sym e) (c.has.ensures.0 c.if-not-has.false)
]

pub returns-clause-none : goal.returns-clause-none
returns-clause-none c e = subst (λ (D : Clause). IsSubset D c.args.set.now) (taken-all c.args.clause.now c.loop-k.k-index c.loop-k-test.false) c.loop-k.invariant
