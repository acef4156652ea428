use Rattle.std.proofs.Common.{◌≡◌, ◌≢◌, inl, inr, subst, sym}
use Rattle.q_logic.specs.Prelude.{Literal, Clause, IsIn}
use Rattle.q_logic.proofs.Common.{item-in, taken-cases, taken-all, test-false}
use Rattle.q_watch.proofs.visit.other_outside.Goals as goal
use Rattle.q_watch.proofs.visit.other_outside.Goals.{else-not-is-via-then-not-is+else-not-has, else-not-is-via-else-not-is}

pub returns-then-not-has : goal.returns-then-not-has
returns-then-not-has c = (
  item-in c.args.clause.now c.loop-j.j-index c.j-item.result c.loop-j-test.true c.j-item.is,
  test-false c.is.result c.is.ensures c.if-not-is.true,
  test-false c.has.result c.has.ensures c.if-not-has.true,
)

pub loop-j-preserved : goal.loop-j-preserved
loop-j-preserved c i m d = elim (taken-cases c.args.clause.now c.loop-j.j-index c.j-item.result i c.loop-j-test.true c.j-item.is m) [
  | inl a ↦ c.loop-j.invariant i a d
  | inr e ↦ elim c.else-not-is.branch [
    | else-not-is-via-then-not-is+else-not-has w ↦ subst (λ (x : Literal). IsIn x c.args.set.now) (sym e) (w.has.ensures.0 w.if-not-has.false)
    | else-not-is-via-else-not-is w ↦ absurd (d (subst (λ (x : Literal). x ≡ c.args.other) (sym e) (c.is.ensures.0 w.if-not-is.false)))
  ]
]

pub returns : goal.returns
returns c =
    subst (λ (C : Clause). (i : Literal) → IsIn i C → i ≢ c.args.other → IsIn i c.args.set.now) (taken-all c.args.clause.now c.loop-j.j-index c.loop-j-test.false) c.loop-j.invariant
