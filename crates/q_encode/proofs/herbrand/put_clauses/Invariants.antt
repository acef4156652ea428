use Rattle.std.proofs.Common.{◌≡◌, ◌++◌, ℕ, drop}
use Rattle.q_logic.specs.Prelude.{CertificateView}
use Rattle.q_miter.specs.Miters.{in_order, translated_matrix}
use Rattle.q_encode.specs.Translations.{IsTranslation}
use Rattle.q_encode.proofs.herbrand.put_clauses.Given as goal

abbrev pub invariant-loop-at : goal.invariant-loop-at
invariant-loop-at l = (top : ℕ) → (c : CertificateView) → IsTranslation top c l.circuit_lits →
    l.rows ++ in_order (translated_matrix top c (drop l.at l.formula.matrix)) ≡
    l.initial.rows ++ in_order (translated_matrix top c l.formula.matrix)
