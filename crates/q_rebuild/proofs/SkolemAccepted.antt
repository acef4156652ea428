-- Skolem functions are circuits that are not refused.
use Rattle.std.proofs.Common.{false, []}
use Rattle.q_logic.specs.Prelude.{PrenexFormula, IsFormula, CertificateView, trees_of, SkolemOf}
use Rattle.q_certificate.proofs.LawfulFit.{lawful-fits}
use Rattle.q_rebuild.specs.Refusals.{IsAccepted}

pub skolem-accepted : (G : PrenexFormula) (c : CertificateView) → IsFormula G → SkolemOf G (trees_of c) → IsAccepted G c
skolem-accepted G c f s = record {
  fits = lawful-fits G.prefix c f.distinct s.lawful;
  not_false = λ m. elim (s.wins (λ v. false) [] m).1 [ ];
}
