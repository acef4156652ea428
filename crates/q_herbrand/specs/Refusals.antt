-- Why circuits are refused.
use Rattle.std.specs.Prelude.{◌≡◌, []}
use Rattle.q_logic.specs.Prelude.{PrenexFormula, CertificateView}
use Rattle.q_certificate.specs.Prelude.{Fits, IsMisfit}
use Rattle.q_certificate.specs.declared.error.Misfit.TheVariants.{MissingOutput as missing, StrangeOutput as strange, StrangeInput as strange_input, Reads as reads}
use Rattle.q_logic.specs.Exchanging.{exchanged}
use Rattle.q_herbrand.specs.declared.error.HerbrandError.{HerbrandError}
use Rattle.q_herbrand.specs.declared.error.HerbrandError.TheVariants.{MissingOutput, StrangeOutput, StrangeInput, Reads, TrueOutput, NoMemory}

-- which refusal comes: the first four are those of circuits of a prefix, with the quantifiers exchanged
abbrev pub IsRefused : PrenexFormula → CertificateView → HerbrandError → Type 0
IsRefused G c (MissingOutput v) = IsMisfit (exchanged G.prefix) c (missing v)
IsRefused G c (StrangeOutput v) = IsMisfit (exchanged G.prefix) c (strange v)
IsRefused G c (StrangeInput v) = IsMisfit (exchanged G.prefix) c (strange_input v)
IsRefused G c (Reads v e) = IsMisfit (exchanged G.prefix) c (reads v e)
IsRefused G c TrueOutput = Fits (exchanged G.prefix) c × (G.matrix ≡ [])
IsRefused G c NoMemory = Unit {0}

-- none of the five comes
pub record IsAccepted (G : PrenexFormula) (c : CertificateView) : Type 0 where
  pub fits : Fits (exchanged G.prefix) c
  pub not_true : G.matrix ≡ [] → ⊥
