use Rattle.q_certificate.proofs.LawfulFit.{lawful-fits}
use Rattle.q_certificate.proofs.laws.lawful_circuits_fit.Goals as goal

pub returns : goal.returns
returns c = lawful-fits
