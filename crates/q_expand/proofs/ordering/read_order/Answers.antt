use Rattle.std.proofs.Common.{◌≡◌, ◌∙◌, ◌≤◌, true, length, slice_get, Some, sym, ap, subst, arith}
use Rattle.q_logic.specs.Prelude.{Prefix, is_bound}
use Rattle.q_prefix.specs.Order.{bound_after}
use Rattle.q_logic.proofs.Common.{test-false, taken-all}
use Rattle.q_expand.proofs.MarkedVariables.{marked_vars, here-bound, here-after, read-more, read-past, read-all}
use Rattle.q_expand.proofs.ordering.read_order.Goals as goal
use Rattle.q_expand.proofs.ordering.read_order.Goals.{then-has+in_ok-push, else-has}

pub after-at-requires : goal.after-at-requires
after-at-requires c =
    let P = c.args.kernel.now.prefix in
    subst (λ (R : Prefix). is_bound R c.in-Some.bound.var ≡ true) (sym c.prefix-in-loop.ensures) (here-bound P c.loop.counter c.in-Some.bound (sym c.loop.invariant.next ∙ c.in-Some.is))

pub loop-preserved : goal.loop-preserved
loop-preserved c =
    let P = c.args.kernel.now.prefix in
    let vars = c.args.dependents.now.vars in
    let at : slice_get P c.loop.counter ≡ Some c.in-Some.bound = sym c.loop.invariant.next ∙ c.in-Some.is in
    record {
      read = elim c.if-has.branch [
        | then-has+in_ok-push w ↦ rw (w.order-is, w.in_ok-push.ensures.items) (read-more vars P c.loop.counter c.in-Some.bound c.loop.order.items at (c.has.ensures.0 w.if-has.true) c.loop.invariant.read)
        | else-has w ↦ rw w.order-is (read-past vars P c.loop.counter c.in-Some.bound c.loop.order.items at (test-false c.has.result c.has.ensures w.if-has.false) c.loop.invariant.read)
      ];
      next = c.after-at.ensures ∙ (ap (λ (R : Prefix). bound_after R c.in-Some.bound.var) c.prefix-in-loop.ensures ∙ here-after P c.loop.counter c.in-Some.bound c.sound.ensures.proper.formula.distinct at);
    }

pub returns : goal.returns
returns c u w =
    let P = c.args.kernel.now.prefix in
    let n = ap (λ (R : Prefix). length R) c.prefix-2.ensures in
    let past : length P ≤ c.loop.counter = omega (arith, c.loop-test.false, c.len-end.ensures, n) in
    c.loop.invariant.read ∙ (ap (marked_vars c.args.dependents.now.vars) (taken-all P c.loop.counter past) ∙ read-all c.args.kernel.now u c.args.dependents.now w)
