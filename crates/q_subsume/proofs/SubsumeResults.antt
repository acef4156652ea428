-- The targets of this crate: their changes keep the limits.
use Rattle.std.proofs.Common.{◌∷◌, subst, sym}
use Rattle.q_logic.specs.declared.rule_bounds.Bounds.{Bounds}
use Rattle.q_logic.specs.Prelude.{Prefix, without, standard, IsInLimits, Slots, live, others, formula_of, Fits, Applicable, change, shortened}
use Rattle.q_kernel.specs.Prelude.{Seen, slots, formula_in}
use Rattle.q_rule.proofs.RuleResults.{less-limits, others-less, shortened-less}
use Rattle.q_subsume.specs.declared.target.Target.{Target}
use Rattle.q_subsume.specs.declared.target.Target.TheVariants.{Subsumed, Strengthen}
use Rattle.q_subsume.specs.Targets.{target_of}

change-limits : (B : Bounds) (P : Prefix) (N : Slots) (t : Target) → Fits B P N (target_of t) → IsInLimits standard (formula_of P (live N)) → IsInLimits standard (change P N (target_of t))
change-limits B P N (Subsumed c d) f h = less-limits P (others d N) (live N) (others-less N d f.1 f.4) h
change-limits B P N (Strengthen c d l) f h = subst (λ o. IsInLimits standard (formula_of P (shortened l o (others d N)))) (sym f.4) (less-limits P (without l f.1 ∷ others d N) (live N) (shortened-less l N d f.1 f.4) h)

pub fits-applies : (B : Bounds) (k : Seen) (t : Target) → IsInLimits standard (formula_in k) → Fits B k.prefix (slots k) (target_of t) → Applicable B k.prefix (slots k) (target_of t)
fits-applies B k t h f = record { fits = f; in_limits = change-limits B k.prefix (slots k) t f h }
