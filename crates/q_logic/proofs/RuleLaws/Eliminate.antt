-- The laws of Eliminate: each resolvent is implied, and then each clause of the variable has it as its pivot.
use Rattle.std.proofs.Common.{◌+◌, ℕ, length, ◌++◌, refl, ap, subst}
use Rattle.q_logic.specs.Prelude.{positive, negation, Matrix, with_literal, without_literal, live, formula_of, resolvents, clauses_not_of, Eliminable, eliminate, change}
use Rattle.q_logic.proofs.Heights.{weight, one}
use Rattle.q_logic.proofs.Ways.{at-most, new-clauses, new-lits}
use Rattle.q_logic.proofs.InOrder.{without_literal-order, with_literal-order, append-order, resolve_all-order}
use Rattle.q_logic.proofs.MeasureFalls.{falls-eliminate}
use Rattle.q_logic.proofs.EliminateRun.{eliminate-run}
use Rattle.q_logic.proofs.Decided.{decided-eliminate}
use Rattle.q_logic.proofs.RuleLaws.{Laws, false_true}

pub laws : (x : ℕ) → Laws (eliminate x)
laws x = record {
  run = λ B P N f m a. at-most (weight one (resolvents x (live N)) + (0 + 0)) (weight length (resolvents x (live N)) + (0 + 0)) (formula_of P (live N)) (change P N (eliminate x))
      (new-clauses (resolvents x (live N)) (clauses_not_of x (live N)) a.in_limits.clauses) (new-lits (resolvents x (live N)) (clauses_not_of x (live N)) a.in_limits.lits)
      (eliminate-run B P N x f.closed a.fits);
  distinct = λ P N d. d;
  falls = λ B P N h. falls-eliminate B P (live N) x h;
  order = λ P N o. append-order (clauses_not_of x (live N)) (resolvents x (live N))
      (without_literal-order (negation (positive x)) (without_literal (positive x) (live N)) (without_literal-order (positive x) (live N) o))
      (resolve_all-order (positive x) (with_literal (positive x) (live N)) (with_literal (negation (positive x)) (live N)) (with_literal-order (negation (positive x)) (live N) o));
  renumbered = λ B P M N r h. record {
    target = eliminate x;
    fits = subst (λ (X : Matrix). Eliminable B.grow P X x) r.same h;
    changed = ap (λ (X : Matrix). formula_of P (clauses_not_of x X ++ resolvents x X)) r.same;
    kept = λ i. refl;
  };
  nothing = λ B N o a h. false_true h.existential;
  decided = λ B P N n o. decided-eliminate B P N x;
}
