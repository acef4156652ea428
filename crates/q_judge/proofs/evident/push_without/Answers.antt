use Rattle.std.proofs.Common.{take, sym, ◌∙◌, true≢false}
use Rattle.std.proofs.lemmas.List.{take_more}
use Rattle.q_judge.proofs.EvidentPivots.{without-kept, without-left}
use Rattle.q_judge.proofs.evident.push_without.Goals as goal
use Rattle.q_judge.proofs.evident.push_without.Goals.{then-not-is+in_ok-push, else-not-is}

pub loop-k-preserved : goal.loop-k-preserved
loop-k-preserved c =
    let k = c.k-item.result in
    let t = take_more c.args.lits.now c.loop-k.k-index k c.loop-k-test.true in
    rw (t, ← c.k-item.is)
    (elim c.if-not-is.branch [
      | then-not-is+in_ok-push w ↦
          rw (w.joined-is, w.in_ok-push.ensures.items) (without-kept c.args.lit k c.loop-k.joined.items c.args.joined.now.items (take c.loop-k.k-index c.args.lits.now) (λ e. true≢false (sym (c.is.ensures.1 e) ∙ w.if-not-is.true)) c.loop-k.invariant)
      | else-not-is w ↦
          rw w.joined-is (without-left c.args.lit k c.loop-k.joined.items c.args.joined.now.items (take c.loop-k.k-index c.args.lits.now) (c.is.ensures.0 w.if-not-is.false) c.loop-k.invariant)
    ])
