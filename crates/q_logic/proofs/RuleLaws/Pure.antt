-- The laws of Pure: a clause with an existential pure literal has it as its pivot, and a universal one is reducible.
use Rattle.std.proofs.Common.{◌≡◌, true, cond, arith, refl, ap, subst}
use Rattle.q_logic.specs.Prelude.{Literal, negation, Matrix, is_bound, is_existential, OccursIn, without_literal, each_without, live, formula_of, pure, change}
use Rattle.q_logic.proofs.Ways.{at-most}
use Rattle.q_logic.proofs.InOrder.{without_literal-order, each_without-order, cond-order}
use Rattle.q_logic.proofs.MeasureFalls.{falls-pure}
use Rattle.q_logic.proofs.PlainRuns.{pure-run}
use Rattle.q_logic.proofs.Decided.{decided-pure}
use Rattle.q_logic.proofs.RuleLaws.{Laws, false_true}

pub laws : (l : Literal) → Laws (pure l)
laws l = record {
  run = λ B P N f m a. at-most 0 0 (formula_of P (live N)) (change P N (pure l)) (omega arith) (omega arith) (pure-run B P N l a.fits);
  distinct = λ P N d. d;
  falls = λ B P N h. falls-pure B P (live N) l h.1;
  order = λ P N o. cond-order (is_existential P l.var) (without_literal l (live N)) (each_without l (live N)) (without_literal-order l (live N) o) (each_without-order l (live N) o);
  renumbered = λ B P M N r h. record {
    target = pure l;
    fits = subst (λ (X : Matrix). (is_bound P l.var ≡ true) × OccursIn l X × (OccursIn (negation l) X → ⊥)) r.same h;
    changed = ap (λ (X : Matrix). formula_of P (cond (is_existential P l.var) (without_literal l X) (each_without l X))) r.same;
    kept = λ i. refl;
  };
  nothing = λ B N o a h. false_true h.0;
  decided = λ B P N n o. decided-pure B P N l;
}
