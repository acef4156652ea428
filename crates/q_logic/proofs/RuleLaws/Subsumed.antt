-- The laws of Subsumed: a clause that holds another one is implied by it.
use Rattle.std.proofs.Common.{ℕ, arith, ap, ◌∙◌}
use Rattle.q_logic.specs.Prelude.{live, formula_of, subsumed, change}
use Rattle.q_logic.proofs.NumberedClauses.{others-slot}
use Rattle.q_logic.proofs.Ways.{at-most}
use Rattle.q_logic.proofs.InOrder.{others-order}
use Rattle.q_logic.proofs.MeasureFalls.{falls-gone}
use Rattle.q_logic.proofs.PlainRuns.{subsumed-run}
use Rattle.q_logic.proofs.Decided.{decided-subsumed}
use Rattle.q_logic.proofs.RuleLaws.{Laws}

pub laws : (c : ℕ) (d : ℕ) → Laws (subsumed c d)
laws c d = record {
  run = λ B P N f m a. at-most 0 0 (formula_of P (live N)) (change P N (subsumed c d)) (omega arith) (omega arith) (subsumed-run B P N c d a.fits);
  distinct = λ P N d. d;
  falls = λ B P N h. falls-gone B P N d h.1 h.4;
  order = λ P N o. others-order d N o;
  renumbered = λ B P M N r h. record {
    target = subsumed (r.number c) (r.number d);
    fits = (h.0, h.1, r.apart c d h.0 h.1 h.3 h.4 h.2, r.there c h.0 h.3, r.there d h.1 h.4, h.5);
    changed = ap (formula_of P) (r.beside d h.1 h.4);
    kept = λ i. ap (λ x. subsumed x (r.number d)) (i c) ∙ ap (subsumed c) (i d);
  };
  nothing = λ B N o a h. a d h.1 h.0 h.4 (others-slot N c d h.0 h.2 h.3);
  decided = λ B P N n o. decided-subsumed B P N c d;
}
