use Rattle.q_certificate.specs.Copied.{AreCopied}
use Rattle.q_certificate.proofs.copying.copy_gates.Given as goal

abbrev pub invariant-loop-gate : goal.invariant-loop-gate
invariant-loop-gate l = AreCopied l.old l.marks l.inputs.items l.initial.aig l.aig l.row.items l.gate
