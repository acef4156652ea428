use Rattle.std.proofs.Common.{length}
use Rattle.q_aiger.specs.Cones.{IsMarking}
use Rattle.q_aiger.proofs.cones.mark_outputs.Given as goal

abbrev pub invariant-loop-output : goal.invariant-loop-output
invariant-loop-output l = IsMarking l.certificate l.marks.items l.output-index (length l.certificate.gates)
