-- Why circuits are refused.
use Rattle.std.specs.Prelude.{[]}
use Rattle.q_logic.specs.Prelude.{PrenexFormula, IsIn, CertificateView}
use Rattle.q_certificate.specs.declared.error.Misfit.{Misfit}
use Rattle.q_certificate.specs.declared.error.Misfit.TheVariants as misfit
use Rattle.q_certificate.specs.Prelude.{Fits, IsMisfit}
use Rattle.q_rebuild.specs.declared.error.RebuildError.{RebuildError}
use Rattle.q_rebuild.specs.declared.error.RebuildError.TheVariants.{MissingOutput, StrangeOutput, StrangeInput, Reads, FalseOutput, NoMemory}

-- which refusal comes: the first four are those of a prefix
abbrev pub IsRefused : PrenexFormula → CertificateView → RebuildError → Type 0
IsRefused G c (MissingOutput v) = IsMisfit G.prefix c (misfit.MissingOutput v)
IsRefused G c (StrangeOutput v) = IsMisfit G.prefix c (misfit.StrangeOutput v)
IsRefused G c (StrangeInput v) = IsMisfit G.prefix c (misfit.StrangeInput v)
IsRefused G c (Reads v u) = IsMisfit G.prefix c (misfit.Reads v u)
IsRefused G c FalseOutput = Fits G.prefix c × IsIn [] G.matrix
IsRefused G c NoMemory = Unit {0}

-- none of the five comes
pub record IsAccepted (G : PrenexFormula) (c : CertificateView) : Type 0 where
  pub fits : Fits G.prefix c
  pub not_false : IsIn [] G.matrix → ⊥

-- what does not fit is refused for that
abbrev pub error_of : Misfit → RebuildError
error_of (misfit.MissingOutput v) = MissingOutput v
error_of (misfit.StrangeOutput v) = StrangeOutput v
error_of (misfit.StrangeInput v) = StrangeInput v
error_of (misfit.Reads v u) = Reads v u
error_of misfit.NoMemory = NoMemory
