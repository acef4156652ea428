use Rattle.std.proofs.Common.{ap}
use Rattle.q_aig.specs.Nodes.{node_view}
use Rattle.q_certificate.proofs.copying.mark.Goals as goal

pub bounds-marks-gate : goal.bounds-marks-gate
bounds-marks-gate c = c.requires c.in-Gate.gate (ap node_view c.in-Gate.is)
