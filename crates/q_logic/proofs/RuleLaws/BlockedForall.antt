-- The laws of BlockedForall: the literal is the universal pivot that is dropped.
use Rattle.std.proofs.Common.{ℕ, arith, ap, subst}
use Rattle.q_logic.specs.Prelude.{Literal, Matrix, slot, live, others, formula_of, blocked_forall, change}
use Rattle.q_logic.specs.Blocking.{AllClash}
use Rattle.q_logic.proofs.Ways.{at-most}
use Rattle.q_logic.proofs.InOrder.{others-order, slot-order, shortened-order}
use Rattle.q_logic.proofs.MeasureFalls.{falls-shortened}
use Rattle.q_logic.proofs.PlainRuns.{blocked_forall-run}
use Rattle.q_logic.proofs.Decided.{decided-blocked_forall}
use Rattle.q_logic.proofs.RuleLaws.{Laws, false_true, shortened-elsewhere}

pub laws : (c : ℕ) (l : Literal) → Laws (blocked_forall c l)
laws c l = record {
  run = λ B P N f m a. at-most 0 0 (formula_of P (live N)) (change P N (blocked_forall c l)) (omega arith) (omega arith) (blocked_forall-run B P N c l a.fits);
  distinct = λ P N d. d;
  falls = λ B P N h. falls-shortened B P N c h.0 l h.1 h.2;
  order = λ P N o. shortened-order l (slot N c) (others c N) (slot-order N c o) (others-order c N o);
  renumbered = λ B P M N r h. record {
    target = blocked_forall (r.number c) l;
    fits = (h.0, r.there c h.0 h.1, h.2, h.3, h.4, subst (λ (X : Matrix). AllClash P X l h.0) (r.beside c h.0 h.1) h.5);
    changed = shortened-elsewhere P M N r l c h.0 h.1;
    kept = λ i. ap (λ x. blocked_forall x l) (i c);
  };
  nothing = λ B N o a h. false_true h.3;
  decided = λ B P N n o. decided-blocked_forall B P N c l;
}
