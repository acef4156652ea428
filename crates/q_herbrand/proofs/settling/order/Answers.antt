use Rattle.std.proofs.Common.{subst}
use Rattle.q_gates.specs.Gates.{gates_view}
use Rattle.q_gates.specs.Sorting.{IsSorted}
use Rattle.q_gates.specs.Uses.{IsFirstCycle}
use Rattle.q_herbrand.specs.Nodes.{AreNodes}
use Rattle.q_herbrand.proofs.SlotNodes.{all-defined, none-cyclic}
use Rattle.q_herbrand.proofs.settling.order.Goals as goal

pub sort_gates-requires : goal.sort_gates-requires
sort_gates-requires c =
    let ns : AreNodes c.args.draft.now c.args.slots.now.definitions.items (gates_view c.deref-2.result.now) =
    rw (c.deref-2.ensures.value) (rw (c.deref.ensures.value) at c.in_ok-nodes.ensures) in
    all-defined c.args.draft.now c.args.slots.now c.requires.resolved.0 (gates_view c.deref-2.result.now)
    c.inputs.ensures.net c.requires.slots c.requires.resolved.1 ns

pub unreachable-requires : goal.unreachable-requires
unreachable-requires c =
    let ns : AreNodes c.args.draft.now c.args.slots.now.definitions.items (gates_view c.deref-2.result.now) =
    rw (c.deref-2.ensures.value) (rw (c.deref.ensures.value) at c.in_ok-nodes.ensures) in
    let f : IsFirstCycle (gates_view c.deref-2.result.now) c.in-Cycle.field-0 =
    subst (IsSorted (gates_view c.deref-2.result.now)) c.in-Cycle.is c.in_ok-order.ensures in
    none-cyclic c.args.draft.now c.args.slots.now c.requires.resolved.0 (gates_view c.deref-2.result.now)
    c.inputs.ensures.net c.requires.slots c.requires.resolved.1 ns c.in-Cycle.field-0 f.cycle
