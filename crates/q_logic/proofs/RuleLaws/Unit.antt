-- The laws of Unit: each clause that changes is implied in its new form, and the clause itself goes last.
use Rattle.std.proofs.Common.{◌≤◌, ◌+◌, ℕ, length, [], ◌∷◌, inl, arith, refl, sym, ap, ◌∙◌, subst, Option}
use Rattle.q_logic.specs.Prelude.{Clause, Matrix, measure_of, slot, live, formula_of, unit, change, head_of, assigned}
use Rattle.q_logic.proofs.NumberedClauses.{live-slot}
use Rattle.q_logic.proofs.Heights.{weight, one}
use Rattle.q_logic.proofs.Ways.{at-most, clauses-weight, lits-weight}
use Rattle.q_logic.proofs.InOrder.{assigned-order}
use Rattle.q_logic.proofs.MeasureFalls.{falls-unit}
use Rattle.q_logic.proofs.PlainRuns.{unit-run}
use Rattle.q_logic.proofs.Decided.{decided-unit}
use Rattle.q_logic.proofs.RuleLaws.{Laws, false_true}

pub laws : (c : ℕ) → Laws (unit c)
laws c = record {
  run = λ B P N f m a. at-most (weight one (live N)) (weight length (live N)) (formula_of P (live N)) (change P N (unit c)) (let i = clauses-weight P (live N) m in omega arith) (let i = lits-weight P (live N) m in omega arith) (unit-run B P N c f.closed a.fits);
  distinct = λ P N d. d;
  falls = λ B P N h. subst (λ o. measure_of B (formula_of P (assigned (head_of o) (live N))) + 1 ≤ measure_of B (formula_of P (live N))) (sym h.1) (falls-unit B P (live N) h.0 (h.0 ∷ []) (live-slot N c (h.0 ∷ []) h.1) (inl refl));
  order = λ P N o. assigned-order (head_of (slot N c)) (live N) o;
  renumbered = λ B P M N r h. record {
    target = unit (r.number c);
    fits = (h.0, r.there c (h.0 ∷ []) h.1, h.2);
    changed = ap (λ (o : Option Clause). formula_of P (assigned (head_of o) (live M))) (h.1 ∙ sym (r.there c (h.0 ∷ []) h.1)) ∙ ap (λ (X : Matrix). formula_of P (assigned (head_of (slot N (r.number c))) X)) r.same;
    kept = λ i. ap unit (i c);
  };
  nothing = λ B N o a h. false_true h.2;
  decided = λ B P N n o. decided-unit B P N c;
}
