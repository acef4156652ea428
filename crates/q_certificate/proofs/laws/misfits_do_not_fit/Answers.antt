use Rattle.q_certificate.proofs.Misfits.{misfit-not_fits}
use Rattle.q_certificate.proofs.laws.misfits_do_not_fit.Goals as goal

pub returns : goal.returns
returns c = misfit-not_fits
