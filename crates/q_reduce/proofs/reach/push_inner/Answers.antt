use Rattle.std.proofs.Common.{◌+◌, take, sym, ◌∙◌, true≢false}
use Rattle.q_logic.specs.Prelude.{Literal}
use Rattle.q_logic.proofs.Common.{taken-cases, taken-more, taken-last, taken-all}
use Rattle.q_reduce.proofs.ReachWalks.{widened-begun, widened-left, widened-pushed}
use Rattle.q_reduce.proofs.reach.push_inner.Goals as goal
use Rattle.q_reduce.proofs.reach.push_inner.Goals.{then-lies_inside+then-not-has+in_ok-push, else-lies_inside, else-lies_inside-via-then-lies_inside+else-not-has, else-lies_inside-via-else-lies_inside}

pub loop-k-init : goal.loop-k-init
loop-k-init c = widened-begun c.args.kernel.now.prefix c.args.u c.args.queue.now

pub loop-k-preserved : goal.loop-k-preserved
loop-k-preserved c =
    let n = c.loop-k.k-index in
    let C = take n c.args.clause.now in
    let D = take (n + 1) c.args.clause.now in
    let j = c.k-item.result in
    let P = c.args.kernel.now.prefix in
    let f = λ (k : Literal). taken-cases c.args.clause.now n j k c.loop-k-test.true c.k-item.is in
    let g = λ (k : Literal). taken-more c.args.clause.now n j k c.loop-k-test.true c.k-item.is in
    elim c.if-lies_inside.branch [
      | then-lies_inside+then-not-has+in_ok-push w ↦
          rw (w.queue-is, w.in_ok-push.ensures.ok)
          (widened-pushed P c.args.u C D j c.args.queue.now c.loop-k.queue f g (taken-last c.args.clause.now n j c.loop-k-test.true c.k-item.is) (sym c.lies_inside.ensures ∙ w.if-lies_inside.true) c.loop-k.invariant)
      | else-lies_inside w ↦
          rw w.queue-is
          (widened-left P c.args.u C D j c.args.queue.now c.loop-k.queue f g (λ t. elim w.else-lies_inside.branch [
            | else-lies_inside-via-then-lies_inside+else-not-has v ↦ v.has.ensures.0 v.if-not-has.false
            | else-lies_inside-via-else-lies_inside v ↦ absurd (true≢false (sym t ∙ sym c.lies_inside.ensures ∙ v.if-lies_inside.false))
          ]) c.loop-k.invariant)
    ]

pub returns : goal.returns
returns c = rw (taken-all c.args.clause.now c.loop-k.k-index c.loop-k-test.false) at c.loop-k.invariant
