use Rattle.std.proofs.Common.{◌+◌, ◌*◌, length}
use Rattle.q_gates.specs.Sorting.{unmarked_count}
use Rattle.q_gates.specs.Spreading.{IsStacked}
use Rattle.q_gates.specs.Gates.{gates_view}
use Rattle.q_gates.proofs.cycles.depends_on_itself.Given as goal

abbrev pub invariant-loop-stack : goal.invariant-loop-stack
invariant-loop-stack l = IsStacked (gates_view l.parts) l.start l.marks.items l.stack.items

abbrev pub decreases-loop-stack : goal.decreases-loop-stack
decreases-loop-stack l = 2 * unmarked_count l.marks.items + length l.stack.items
