-- The laws of Blocked: the literal is the pivot by which the clause goes.
use Rattle.std.proofs.Common.{ℕ, arith, ap, subst}
use Rattle.q_logic.specs.Prelude.{Literal, Matrix, live, formula_of, blocked, change}
use Rattle.q_logic.specs.Blocking.{AllClash}
use Rattle.q_logic.proofs.Ways.{at-most}
use Rattle.q_logic.proofs.InOrder.{others-order}
use Rattle.q_logic.proofs.MeasureFalls.{falls-gone}
use Rattle.q_logic.proofs.PlainRuns.{blocked-run}
use Rattle.q_logic.proofs.Decided.{decided-blocked}
use Rattle.q_logic.proofs.RuleLaws.{Laws, false_true}

pub laws : (c : ℕ) (l : Literal) → Laws (blocked c l)
laws c l = record {
  run = λ B P N f m a. at-most 0 0 (formula_of P (live N)) (change P N (blocked c l)) (omega arith) (omega arith) (blocked-run B P N c l a.fits);
  distinct = λ P N d. d;
  falls = λ B P N h. falls-gone B P N c h.0 h.1;
  order = λ P N o. others-order c N o;
  renumbered = λ B P M N r h. record {
    target = blocked (r.number c) l;
    fits = (h.0, r.there c h.0 h.1, h.2, h.3, subst (λ (X : Matrix). AllClash P X l h.0) (r.beside c h.0 h.1) h.4);
    changed = ap (formula_of P) (r.beside c h.0 h.1);
    kept = λ i. ap (λ x. blocked x l) (i c);
  };
  nothing = λ B N o a h. false_true h.3;
  decided = λ B P N n o. decided-blocked B P N c l;
}
