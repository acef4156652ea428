-- What is refused is not accepted.
use Rattle.std.proofs.Common.{◌≡◌, refl}
use Rattle.q_logic.specs.Prelude.{PrenexFormula, CertificateView}
use Rattle.q_certificate.specs.declared.error.Misfit.{Misfit}
use Rattle.q_certificate.specs.declared.error.Misfit.TheVariants as misfit
use Rattle.q_certificate.specs.Prelude.{IsMisfit}
use Rattle.q_certificate.proofs.Misfits.{misfit-not_fits}
use Rattle.q_rebuild.specs.Refusals.{IsRefused, IsAccepted, error_of}
use Rattle.q_rebuild.specs.declared.error.RebuildError.{RebuildError}
use Rattle.q_rebuild.specs.declared.error.RebuildError.TheVariants as refusal

pub refused-not_accepted : (G : PrenexFormula) (c : CertificateView) (e : RebuildError) → (e ≡ refusal.NoMemory → ⊥) → IsRefused G c e → IsAccepted G c → ⊥
refused-not_accepted G c (refusal.MissingOutput v) d h a = misfit-not_fits G.prefix c (misfit.MissingOutput v) (λ e. cc) h a.fits
refused-not_accepted G c (refusal.StrangeOutput v) d h a = misfit-not_fits G.prefix c (misfit.StrangeOutput v) (λ e. cc) h a.fits
refused-not_accepted G c (refusal.StrangeInput v) d h a = misfit-not_fits G.prefix c (misfit.StrangeInput v) (λ e. cc) h a.fits
refused-not_accepted G c (refusal.Reads v u) d h a = misfit-not_fits G.prefix c (misfit.Reads v u) (λ e. cc) h a.fits
refused-not_accepted G c refusal.FalseOutput d h a = a.not_false h.1
refused-not_accepted G c refusal.NoMemory d h a = d refl

-- what does not fit is refused
pub misfit-refused : (G : PrenexFormula) (c : CertificateView) (m : Misfit) → IsMisfit G.prefix c m → IsRefused G c (error_of m)
misfit-refused G c (misfit.MissingOutput v) h = h
misfit-refused G c (misfit.StrangeOutput v) h = h
misfit-refused G c (misfit.StrangeInput v) h = h
misfit-refused G c (misfit.Reads v u) h = h
misfit-refused G c misfit.NoMemory h = h
