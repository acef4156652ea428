use Rattle.std.proofs.Common.{length, ◌-◌}
use Rattle.q_aiger.specs.Cones.{IsMarking}
use Rattle.q_aiger.proofs.cones.mark_operands.Given as goal

abbrev pub invariant-loop-later : goal.invariant-loop-later
invariant-loop-later l = IsMarking l.certificate l.marks.items (length l.certificate.outputs) (length l.certificate.gates - l.later)
