use Rattle.std.proofs.Common.{◌≡◌, ℕ, take}
use Rattle.q_logic.specs.Prelude.{CertificateView}
use Rattle.q_miter.specs.Miters.{translated_clause}
use Rattle.q_encode.specs.Translations.{IsTranslation}
use Rattle.q_encode.proofs.translating.translate.Given as goal

abbrev pub invariant-loop-lit : goal.invariant-loop-lit
invariant-loop-lit l = (top : ℕ) → (c : CertificateView) → IsTranslation top c l.circuit_lits → l.made.items ≡ translated_clause top c (take l.lit-index l.clause)
