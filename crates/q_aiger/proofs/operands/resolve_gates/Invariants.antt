use Rattle.std.proofs.Common.{◌≡◌, ◌+◌, drop, []}
use Rattle.q_aiger.specs.Operands.{gates_from}
use Rattle.q_gates.specs.Gates.{gates_view}
use Rattle.q_aiger.proofs.operands.resolve_gates.Given as goal

abbrev pub invariant-loop-at : goal.invariant-loop-at
invariant-loop-at l =
    gates_from l.inputs l.items.defined (l.line + l.at) (gates_view l.gates.items) (drop l.at l.items.operands) ≡ gates_from l.inputs l.items.defined l.line [] l.items.operands
