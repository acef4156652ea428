use Rattle.std.proofs.Common.{◌≡◌, ◌+◌, drop, []}
use Rattle.q_aiger.specs.Operands.{outputs_from}
use Rattle.q_aiger.specs.Standing.{operands_view}
use Rattle.q_aiger.proofs.operands.resolve_outputs.Given as goal

abbrev pub invariant-loop-at : goal.invariant-loop-at
invariant-loop-at l =
    outputs_from l.inputs l.items.defined (l.line + l.at) (operands_view l.outputs.items) (drop l.at l.items.outputs) ≡ outputs_from l.inputs l.items.defined l.line [] l.items.outputs
