-- The laws of Cut: the step that drops a reducible literal is valid.
use Rattle.std.proofs.Common.{◌≡◌, ◌↔◌, ℕ, true, arith, ap, subst, Some}
use Rattle.q_logic.specs.declared.rule_bounds.Bounds.{Bounds}
use Rattle.q_logic.specs.Prelude.{Literal, Clause, Matrix, Prefix, Reducible, Slots, slot, live, others, formula_of, cut, Fits, change}
use Rattle.q_logic.specs.Rules.Cut.{reducible}
use Rattle.q_logic.specs.Deciding.{fits}
use Rattle.q_logic.proofs.Ways.{at-most}
use Rattle.q_logic.proofs.InOrder.{others-order, slot-order, shortened-order}
use Rattle.q_logic.proofs.MeasureFalls.{falls-shortened}
use Rattle.q_logic.proofs.PlainRuns.{cut-run}
use Rattle.q_logic.proofs.Decided.{if_some-is, is-if_some}
use Rattle.q_logic.proofs.CutDecided.{decided-reducible}
use Rattle.q_logic.proofs.RuleLaws.{Laws, false_true, shortened-elsewhere}

decided-cut : (B : Bounds) (P : Prefix) (N : Slots) (c : ℕ) (l : Literal) → (fits B P N (cut c l) ≡ true) ↔ Fits B P N (cut c l)
decided-cut B P N c l = (
  (λ h. let r : (C : Clause) × (slot N c ≡ Some C) × (reducible P (others c N) C l ≡ true) = if_some-is (λ C. reducible P (others c N) C l) (slot N c) h in (r.0, r.1, (decided-reducible P (others c N) r.0 l).0 r.2)),
  λ h. is-if_some (λ C. reducible P (others c N) C l) (slot N c) h.0 h.1 ((decided-reducible P (others c N) h.0 l).1 h.2),
)

pub laws : (c : ℕ) (l : Literal) → Laws (cut c l)
laws c l = record {
  run = λ B P N f m a. at-most 0 0 (formula_of P (live N)) (change P N (cut c l)) (omega arith) (omega arith) (cut-run B P N c l a.fits);
  distinct = λ P N d. d;
  falls = λ B P N h. falls-shortened B P N c h.0 l h.1 h.2.in_clause;
  order = λ P N o. shortened-order l (slot N c) (others c N) (slot-order N c o) (others-order c N o);
  renumbered = λ B P M N r h. record {
    target = cut (r.number c) l;
    fits = (h.0, r.there c h.0 h.1, subst (λ (X : Matrix). Reducible P X h.0 l) (r.beside c h.0 h.1) h.2);
    changed = shortened-elsewhere P M N r l c h.0 h.1;
    kept = λ i. ap (λ x. cut x l) (i c);
  };
  nothing = λ B N o a h. false_true h.2.universal_literal;
  decided = λ B P N n o. decided-cut B P N c l;
}
