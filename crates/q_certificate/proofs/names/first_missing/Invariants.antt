use Rattle.std.proofs.Common.{◌≡◌, drop}
use Rattle.q_logic.specs.Prelude.{CertificateView, trees_of}
use Rattle.q_aig.specs.Prelude.{net_of}
use Rattle.q_certificate.specs.Tabled.{AreCircuits}
use Rattle.q_certificate.specs.Refusals.{first_missing}
use Rattle.q_certificate.proofs.names.first_missing.Given as goal

abbrev pub invariant-loop-i : goal.invariant-loop-i
invariant-loop-i l = (c : CertificateView) → AreCircuits (net_of c) (trees_of c) l.table.items → first_missing l.prefix c ≡ first_missing (drop l.i l.prefix) c
