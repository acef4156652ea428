use Rattle.std.proofs.Common.{◌∙◌, ℕ, sym, ap, subst, inl, inr}
use Rattle.q_logic.specs.Prelude.{Literal, IsIn, inner_existential}
use Rattle.q_logic.proofs.Common.{item-in}
use Rattle.q_reduce.proofs.sides.put_beside.Goals as goal
use Rattle.q_reduce.proofs.sides.put_beside.Goals.{then-is_inner+in_ok-put_free, else-is_inner}

pub loop-k-preserved : goal.loop-k-preserved
loop-k-preserved c y m =
    let P = c.args.kernel.now.prefix in
    elim c.if-is_inner.branch [
      | then-is_inner+in_ok-put_free w ↦ elim (w.in_ok-put_free.ensures y (rw w.list-is at m)) [
        | inl a ↦ c.loop-k.invariant y a
        | inr b ↦ inr (
          record {
            left = c.lits-k-items.result.now;
            right = b.0.0;
            left_at = c.lits-k-items.ensures.clause;
            right_at = b.0.1;
            lit = c.k-item.result;
            in_left = item-in c.lits-k-items.result.now c.loop-k.k-index c.k-item.result c.loop-k-test.true c.k-item.is;
            in_right = subst (λ (j : Literal). IsIn j b.0.0) w.negated.ensures b.0.2;
            inner = ap (λ (v : ℕ). inner_existential P v c.k-item.result.var) (sym c.var-in-loop-k.ensures.value)
                ∙ (ap (inner_existential P c.var-in-loop-k.result) (sym c.var.ensures.value) ∙ (sym c.is_inner.ensures ∙ w.if-is_inner.true));
          },
          b.1,
        )
      ]
      | else-is_inner w ↦ c.loop-k.invariant y (rw w.list-is at m)
    ]
