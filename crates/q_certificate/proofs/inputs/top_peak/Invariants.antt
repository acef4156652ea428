use Rattle.q_certificate.specs.Peaks.{IsTop}
use Rattle.q_certificate.proofs.inputs.top_peak.Given as goal

abbrev pub invariant-loop-k : goal.invariant-loop-k
invariant-loop-k l = IsTop l.given l.k l.weights l.top
