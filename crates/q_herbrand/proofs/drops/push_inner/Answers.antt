use Rattle.std.proofs.Common.{◌≡◌, true, take, sym, ◌∙◌, subst, ℕ}
use Rattle.std.proofs.lemmas.List.{take_more}
use Rattle.q_logic.specs.Prelude.{is_bound}
use Rattle.q_logic.proofs.Common.{item-in}
use Rattle.q_herbrand.proofs.DropKinds.{inner_kept, inner_left}
use Rattle.q_herbrand.proofs.drops.push_inner.Goals as goal
use Rattle.q_herbrand.proofs.drops.push_inner.Goals.{then-not-outer_or_same+in_ok-push, else-not-outer_or_same}

pub outer_or_same-requires-clause-first : goal.outer_or_same-requires-clause-first
outer_or_same-requires-clause-first c =
    subst (λ (v : ℕ). is_bound c.args.scope.now v ≡ true) (sym c.var.ensures.value)
    (c.requires.within c.k-item.result
    (item-in c.args.clause.now c.loop-k.k-index c.k-item.result c.loop-k-test.true c.k-item.is))

pub loop-k-preserved : goal.loop-k-preserved
loop-k-preserved c =
    let P = c.args.scope.now in
    let k = c.k-item.result in
    let t = take_more c.args.clause.now c.loop-k.k-index k c.loop-k-test.true in
    let o = rw (c.var.ensures.value, c.var-in-loop-k.ensures.value) at c.outer_or_same.ensures in
    rw (t, ← c.k-item.is)
    (elim c.if-not-outer_or_same.branch [
      | then-not-outer_or_same+in_ok-push w ↦
          rw (w.row-is, w.in_ok-push.ensures.items)
          (inner_kept P c.args.lit k c.loop-k.row.items c.args.row.now.items (take c.loop-k.k-index c.args.clause.now)
          (sym o ∙ w.if-not-outer_or_same.true) c.loop-k.invariant)
      | else-not-outer_or_same w ↦
          rw w.row-is
          (inner_left P c.args.lit k c.loop-k.row.items c.args.row.now.items (take c.loop-k.k-index c.args.clause.now)
          (sym o ∙ w.if-not-outer_or_same.false) c.loop-k.invariant)
    ])
