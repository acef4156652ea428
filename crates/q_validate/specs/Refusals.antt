-- Why circuits are refused.
use Rattle.q_logic.specs.Prelude.{PrenexFormula, CertificateView}
use Rattle.q_certificate.specs.Prelude.{IsMisfit}
use Rattle.q_certificate.specs.declared.error.Misfit.{Misfit}
use Rattle.q_certificate.specs.declared.error.Misfit.TheVariants.{MissingOutput as missing_output, StrangeOutput as strange_output, StrangeInput as strange_input, Reads as reads, NoMemory as no_memory}
use Rattle.q_validate.specs.declared.error.ValidateError.{ValidateError}
use Rattle.q_validate.specs.declared.error.ValidateError.TheVariants.{MissingOutput, StrangeOutput, StrangeInput, Reads, NoMemory}

-- what of the circuits does not fit
abbrev pub misfit_of : ValidateError → Misfit
misfit_of (MissingOutput v) = missing_output v
misfit_of (StrangeOutput v) = strange_output v
misfit_of (StrangeInput v) = strange_input v
misfit_of (Reads v u) = reads v u
misfit_of NoMemory = no_memory

-- the refusal comes, and none before it
abbrev pub IsRefused : PrenexFormula → CertificateView → ValidateError → Type 0
IsRefused F c e = IsMisfit F.prefix c (misfit_of e)
