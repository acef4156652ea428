use Rattle.std.proofs.Common.{take}
use Rattle.q_certificate.specs.Tabled.{AreAllowedBy}
use Rattle.q_certificate.proofs.inputs.allow_all.Given as goal

abbrev pub invariant-loop-i : goal.invariant-loop-i
invariant-loop-i l = AreAllowedBy (take l.i l.prefix) l.names l.allowed
