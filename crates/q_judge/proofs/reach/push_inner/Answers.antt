use Rattle.std.proofs.Common.{◌+◌, take, sym, ◌∙◌, true≢false}
use Rattle.q_logic.specs.Prelude.{Literal, IsIn}
use Rattle.q_logic.proofs.Common.{item-in, taken-cases, taken-more, taken-last, taken-all}
use Rattle.q_judge.proofs.ReachWalks.{widened-begun, widened-left, widened-pushed}
use Rattle.q_judge.proofs.reach.push_inner.Goals as goal
use Rattle.q_judge.proofs.reach.push_inner.Goals.{then-lies_inside+then-not-has+in_ok-push, else-lies_inside, else-lies_inside-via-then-lies_inside+else-not-has, else-lies_inside-via-else-lies_inside}

pub loop-k-init : goal.loop-k-init
loop-k-init c = widened-begun c.args.scope.now c.args.u c.args.trail.now

pub lies_inside-requires-clause-first : goal.lies_inside-requires-clause-first
lies_inside-requires-clause-first c = c.requires.within c.k-item.result (item-in c.args.clause.now c.loop-k.k-index c.k-item.result c.loop-k-test.true c.k-item.is)

pub loop-k-preserved : goal.loop-k-preserved
loop-k-preserved c =
    let C = take c.loop-k.k-index c.args.clause.now in
    let D = take (c.loop-k.k-index + 1) c.args.clause.now in
    let j = c.k-item.result in
    let f = λ (k : Literal). taken-cases c.args.clause.now c.loop-k.k-index j k c.loop-k-test.true c.k-item.is in
    let g : (k : Literal) → IsIn k C → IsIn k D = λ k m. taken-more c.args.clause.now c.loop-k.k-index j k c.loop-k-test.true c.k-item.is m in
    elim c.if-lies_inside.branch [
      | then-lies_inside+then-not-has+in_ok-push w ↦
          rw (w.trail-is, w.in_ok-push.ensures.ok)
          (widened-pushed c.args.scope.now c.args.u C D j c.args.trail.now c.loop-k.trail f g (taken-last c.args.clause.now c.loop-k.k-index j c.loop-k-test.true c.k-item.is) (sym c.lies_inside.ensures ∙ w.if-lies_inside.true) c.loop-k.invariant)
      | else-lies_inside w ↦
          rw w.trail-is
          (widened-left c.args.scope.now c.args.u C D j c.args.trail.now c.loop-k.trail f g (λ t. elim w.else-lies_inside.branch [
            | else-lies_inside-via-then-lies_inside+else-not-has v ↦ v.has.ensures.0 v.if-not-has.false
            | else-lies_inside-via-else-lies_inside v ↦ absurd (true≢false (sym t ∙ sym c.lies_inside.ensures ∙ v.if-lies_inside.false))
          ]) c.loop-k.invariant)
    ]

pub returns : goal.returns
returns c = rw (taken-all c.args.clause.now c.loop-k.k-index c.loop-k-test.false) at c.loop-k.invariant
