use Rattle.std.proofs.Common.{◌≡◌, length}
use Rattle.q_certificate.specs.Peaks.{AreStrangeWeights}
use Rattle.q_certificate.proofs.peaks.strange_weights.Given as goal

abbrev pub invariant-loop-i : goal.invariant-loop-i
invariant-loop-i l = record {
  room : length l.row.items ≡ l.i;
  weights : AreStrangeWeights l.allowed l.i l.row.items;
}
