use Rattle.std.proofs.Common.{sym, refl, subst, inl, inr}
use Rattle.q_logic.specs.Prelude.{Literal, IsIn}
use Rattle.q_logic.proofs.MemberPlaces.{item-in, taken-cases, test-false}
use Rattle.q_logic.proofs.lits.holds.Goals as goal

pub returns-then-is : goal.returns-then-is
returns-then-is c =
    let m = item-in c.args.clause.now c.loop-k.k-index c.k-item.result c.loop-k-test.true c.k-item.is in
    ((λ t. subst (λ (k : Literal). IsIn k c.args.clause.now) (c.is.ensures.0 c.if-is.true) m), (λ t. refl))

pub loop-k-preserved : goal.loop-k-preserved
loop-k-preserved c m = elim (taken-cases c.args.clause.now c.loop-k.k-index c.k-item.result c.args.lit c.loop-k-test.true c.k-item.is m) [
  | inl a ↦ c.loop-k.invariant a
  | inr e ↦ test-false c.is.result c.is.ensures c.if-is.false (sym e)
]
