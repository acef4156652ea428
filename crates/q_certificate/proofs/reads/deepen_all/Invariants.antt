use Rattle.q_certificate.specs.Peaks.{AreDepths}
use Rattle.q_certificate.proofs.reads.deepen_all.Given as goal

abbrev pub invariant-loop-i : goal.invariant-loop-i
invariant-loop-i l = AreDepths l.prefix l.names l.depths
