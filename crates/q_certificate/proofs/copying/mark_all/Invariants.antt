use Rattle.std.proofs.Common.{◌≤◌, length}
use Rattle.q_certificate.specs.Copied.{AreMarking}
use Rattle.q_certificate.proofs.copying.mark_all.Given as goal

abbrev pub invariant-loop-i : goal.invariant-loop-i
invariant-loop-i l = AreMarking l.aig.gates l.outputs l.marks l.i (length l.aig.gates)

abbrev pub invariant-loop-gate : goal.invariant-loop-gate
invariant-loop-gate l = record {
  bound : l.gate ≤ length l.aig.gates;
  marked : AreMarking l.aig.gates l.outputs l.marks (length l.outputs) l.gate;
}

abbrev pub decreases-loop-gate : goal.decreases-loop-gate
decreases-loop-gate l = l.gate
