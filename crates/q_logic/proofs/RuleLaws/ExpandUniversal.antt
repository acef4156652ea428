-- The laws of ExpandUniversal: the copies come as fresh variables, and then the universal leaves each clause.
use Rattle.std.proofs.Common.{◌+◌, ℕ, refl, ap, subst}
use Rattle.q_logic.specs.Prelude.{Matrix, greatest, live, formula_of, expansion_vars, insert_all, expanded, Expandable, expand_universal}
use Rattle.q_logic.proofs.InOrder.{expanded-order}
use Rattle.q_logic.proofs.MeasureFallsExpand.{falls-expand}
use Rattle.q_logic.proofs.ExpandClosure.{expand-run, expand-distinct}
use Rattle.q_logic.proofs.Decided.{decided-expand}
use Rattle.q_logic.proofs.RuleLaws.{Laws, false_true}

pub laws : (u : ℕ) → Laws (expand_universal u)
laws u = record {
  run = λ B P N f m a. expand-run B P N u f.distinct f.closed a.fits a.in_limits;
  distinct = λ P N d. expand-distinct P (live N) u d;
  falls = λ B P N h. falls-expand B P (live N) u h;
  order = λ P N o. expanded-order u (expansion_vars P (live N) u) (greatest P + 1) (live N) o;
  renumbered = λ B P M N r h. record {
    target = expand_universal u;
    fits = subst (λ (X : Matrix). Expandable B.expand P X u) r.same h;
    changed = ap (λ (X : Matrix). formula_of (insert_all (expansion_vars P X u) (greatest P + 1) P) (expanded u (expansion_vars P X u) (greatest P + 1) X)) r.same;
    kept = λ i. refl;
  };
  nothing = λ B N o a h. false_true h.universal;
  decided = λ B P N n o. decided-expand B P N u;
}
