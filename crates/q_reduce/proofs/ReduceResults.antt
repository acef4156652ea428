-- The targets of this crate: their changes keep the limits.
use Rattle.std.proofs.Common.{Bool, true, false, cond, ◌∷◌, subst, sym}
use Rattle.q_logic.specs.declared.rule_bounds.Bounds.{Bounds}
use Rattle.q_logic.specs.Prelude.{negation, Prefix, is_existential, without, standard, IsInLimits, without_literal, each_without, Slots, live, others, formula_of, Fits, Applicable, change, assigned, head_of, shortened}
use Rattle.q_kernel.specs.Prelude.{Seen, slots, formula_in}
use Rattle.q_rule.proofs.RuleResults.{less-through, less-limits, each_without-less, without_literal-less, others-less, shortened-less}
use Rattle.q_reduce.specs.declared.target.Target.{Target}
use Rattle.q_reduce.specs.declared.target.Target.TheVariants.{Tautology, Unit, Cut, Pure}
use Rattle.q_reduce.specs.Targets.{target_of}

change-limits : (B : Bounds) (P : Prefix) (N : Slots) (t : Target) → Fits B P N (target_of t) → IsInLimits standard (formula_of P (live N)) → IsInLimits standard (change P N (target_of t))
change-limits B P N (Tautology c) f h = less-limits P (others c N) (live N) (others-less N c f.0 f.1) h
change-limits B P N (Unit c) f h = subst (λ o. IsInLimits standard (formula_of P (assigned (head_of o) (live N)))) (sym f.1)
    (less-limits P (each_without (negation f.0) (without_literal f.0 (live N))) (live N)
    (less-through (each_without (negation f.0) (without_literal f.0 (live N))) (without_literal f.0 (live N)) (live N) (each_without-less (negation f.0) (without_literal f.0 (live N))) (without_literal-less f.0 (live N))) h)
change-limits B P N (Cut c l) f h = subst (λ o. IsInLimits standard (formula_of P (shortened l o (others c N)))) (sym f.1) (less-limits P (without l f.0 ∷ others c N) (live N) (shortened-less l N c f.0 f.1) h)
change-limits B P N (Pure l) f h = go (is_existential P l.var)
  where
    go : (b : Bool) → IsInLimits standard (formula_of P (cond b (without_literal l (live N)) (each_without l (live N))))
    go true = less-limits P (without_literal l (live N)) (live N) (without_literal-less l (live N)) h
    go false = less-limits P (each_without l (live N)) (live N) (each_without-less l (live N)) h

pub fits-applies : (B : Bounds) (k : Seen) (t : Target) → IsInLimits standard (formula_in k) → Fits B k.prefix (slots k) (target_of t) → Applicable B k.prefix (slots k) (target_of t)
fits-applies B k t h f = record { fits = f; in_limits = change-limits B k.prefix (slots k) t f h }
