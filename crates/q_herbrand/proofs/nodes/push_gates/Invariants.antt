use Rattle.q_gates.specs.Gates.{gates_view}
use Rattle.q_herbrand.specs.Nodes.{AreGateNodes}
use Rattle.q_herbrand.proofs.nodes.push_gates.Given as goal

abbrev pub invariant-loop-gate : goal.invariant-loop-gate
invariant-loop-gate l = AreGateNodes l.aig l.count (gates_view l.initial.nodes.items) l.gate (gates_view l.nodes.items)
