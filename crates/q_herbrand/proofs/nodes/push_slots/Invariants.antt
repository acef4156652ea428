use Rattle.q_gates.specs.Gates.{gates_view}
use Rattle.q_herbrand.specs.Nodes.{AreSlotNodes}
use Rattle.q_herbrand.proofs.nodes.push_slots.Given as goal

abbrev pub invariant-loop-slot : goal.invariant-loop-slot
invariant-loop-slot l = AreSlotNodes l.aig l.count l.definitions l.slot (gates_view l.nodes.items)
