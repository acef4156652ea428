use Rattle.std.proofs.Common.{◌≡◌, length}
use Rattle.q_certificate.specs.Peaks.{ArePeaks}
use Rattle.q_certificate.proofs.peaks.peaks.Given as goal

abbrev pub invariant-loop-gate : goal.invariant-loop-gate
invariant-loop-gate l = record {
  room : length l.row.items ≡ l.gate;
  peaks : ArePeaks l.aig l.weights l.row.items;
}
