use Rattle.std.proofs.Common.{◌≡◌, ◌++◌, ℕ, take}
use Rattle.q_logic.specs.Prelude.{CertificateView}
use Rattle.q_miter.specs.Miters.{denials, in_order}
use Rattle.q_encode.specs.Translations.{IsTranslation}
use Rattle.q_encode.proofs.skolem.put_denials.Given as goal

abbrev pub invariant-loop-k : goal.invariant-loop-k
invariant-loop-k l = (top : ℕ) → (c : CertificateView) → IsTranslation top c l.circuit_lits →
    l.rows ≡ l.initial.rows ++ in_order (denials top c l.lit (take l.k-index l.clause))
