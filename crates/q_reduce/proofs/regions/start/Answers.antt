use Rattle.std.proofs.Common.{◌∙◌, sym, inl, inr, true≢false}
use Rattle.q_kernel.proofs.NextVariables.{after-bound}
use Rattle.q_reduce.proofs.FirstBound.{first-bound}
use Rattle.q_reduce.proofs.regions.start.Goals as goal
use Rattle.q_reduce.proofs.regions.start.Goals.{then-is_inner+in_ok-push, else-is_inner}

pub loop-init : goal.loop-init
loop-init c = record {
  labels = c.grow.ensures.none;
  covered = c.grow-2.ensures.none;
  bound = λ b e. first-bound c.args.kernel.now.prefix b (sym (rw c.prefix.ensures at c.first-at.ensures) ∙ e);
  behind = λ u t. absurd (true≢false (sym t ∙ (c.grow-2.ensures.items u ∙ c.requires.bare u)));
}

pub loop-preserved : goal.loop-preserved
loop-preserved c = record {
  labels = elim c.if-is_inner.branch [
    | then-is_inner+in_ok-push w ↦ rw w.labels-is (w.put_label.ensures ∙ c.loop.invariant.labels)
    | else-is_inner w ↦ rw w.labels-is c.loop.invariant.labels
  ];
  covered = elim c.if-is_inner.branch [
    | then-is_inner+in_ok-push w ↦ rw w.covered-is c.loop.invariant.covered
    | else-is_inner w ↦ rw w.covered-is (w.cover.ensures.none ∙ c.loop.invariant.covered)
  ];
  bound = λ b e. after-bound c.args.kernel.now.prefix c.in-Some.bound.var b (sym (rw c.prefix-in-loop.ensures at c.after-at.ensures) ∙ e);
  behind = λ u t. elim c.if-is_inner.branch [
    | then-is_inner+in_ok-push w ↦ c.loop.invariant.behind u (rw w.covered-is at t)
    | else-is_inner w ↦ elim (w.cover.ensures.behind u (rw w.covered-is at t)) [
      | inl a ↦ c.loop.invariant.behind u a
      | inr o ↦ o
    ]
  ];
}
