use Rattle.std.proofs.Common.{ℕ, List, subst, arith}
use Rattle.std.proofs.lemmas.List.{length-map}
use Rattle.q_gates.specs.Gates.{gates_view, gate_view}
use Rattle.q_gates.specs.Sorting.{IsWalk}
use Rattle.q_gates.proofs.GateWalk.{walk-full}
use Rattle.q_gates.proofs.sorting.find_order.Goals as goal

pub returns : goal.returns
returns c =
    let w = subst (λ (s : List ℕ). IsWalk (gates_view c.args.parts.now) c.loop-root.opened.items c.loop-root.closed.items s c.loop-root.order.items) c.loop-root.invariant.empty c.loop-root.invariant.walk in
    let len = length-map c.args.parts.now gate_view in
    walk-full (gates_view c.args.parts.now) c.loop-root.opened.items c.loop-root.closed.items c.loop-root.order.items w (λ g lt. c.loop-root.invariant.opened g (omega arith))
