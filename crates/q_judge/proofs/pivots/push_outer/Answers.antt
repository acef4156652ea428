use Rattle.std.proofs.Common.{take, sym, ◌∙◌}
use Rattle.std.proofs.lemmas.List.{take_more}
use Rattle.q_logic.proofs.Common.{item-in}
use Rattle.q_judge.proofs.OuterLiterals.{outer_kept, outer_left}
use Rattle.q_judge.proofs.pivots.push_outer.Goals as goal
use Rattle.q_judge.proofs.pivots.push_outer.Goals.{then-is_outer+in_ok-push, else-is_outer}

pub is_outer-requires-clause-second : goal.is_outer-requires-clause-second
is_outer-requires-clause-second c = c.requires.within c.k-item.result (item-in c.args.clause.now c.loop-k.k-index c.k-item.result c.loop-k-test.true c.k-item.is)

pub loop-k-preserved : goal.loop-k-preserved
loop-k-preserved c =
    let k = c.k-item.result in
    let t = take_more c.args.clause.now c.loop-k.k-index k c.loop-k-test.true in
    rw (t, ← c.k-item.is)
    (elim c.if-is_outer.branch [
      | then-is_outer+in_ok-push w ↦
          rw (w.joined-is, w.in_ok-push.ensures.items) (outer_kept c.args.scope.now c.args.m k c.loop-k.joined.items c.args.joined.now.items (take c.loop-k.k-index c.args.clause.now) (sym c.is_outer.ensures ∙ w.if-is_outer.true) c.loop-k.invariant)
      | else-is_outer w ↦
          rw w.joined-is (outer_left c.args.scope.now c.args.m k c.loop-k.joined.items c.args.joined.now.items (take c.loop-k.k-index c.args.clause.now) (sym c.is_outer.ensures ∙ w.if-is_outer.false) c.loop-k.invariant)
    ])
