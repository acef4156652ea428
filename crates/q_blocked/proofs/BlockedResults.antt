-- The targets of this crate: their changes keep the limits, and what steps make of them.
use Rattle.std.proofs.Common.{◌≡◌, ◌≤◌, ◌+◌, ◌*◌, ℕ, ◌∷◌, sym, ap, ◌∙◌, subst, Some, length}
use Rattle.q_logic.specs.declared.rule_bounds.Bounds.{Bounds}
use Rattle.q_logic.specs.Prelude.{Literal, Clause, Matrix, Prefix, IsIn, without, standard, IsInLimits, size_of, delete, Slots, slot, live, others, formula_of, Fits, Applicable, change, shortened}
use Rattle.q_logic.specs.Targets as theory
use Rattle.q_logic.proofs.Common.{SameClauses, alike-refl, live-gone}
use Rattle.q_log.specs.Texts.{step_text}
use Rattle.q_kernel.specs.Prelude.{Seen, slots, formula_in, IsSound, SameView, IsDeleted, IsDropped}
use Rattle.q_rule.specs.Becoming.{CanChange, IsChanged}
use Rattle.q_rule.proofs.TargetChanges.{change-sweep, changed-cut}
use Rattle.q_rule.proofs.RemovalLoops.{limits-gone, size-deleted, bytes-deleted}
use Rattle.q_rule.proofs.RuleSteps.{delete-cost}
use Rattle.q_rule.proofs.RuleResults.{less-limits, others-less, shortened-less, others-same}
use Rattle.q_blocked.specs.declared.target.Target.{Target}
use Rattle.q_blocked.specs.declared.target.Target.TheVariants.{Blocked, BlockedForall, Cover}
use Rattle.q_blocked.specs.declared.plan.Plan.{Plan}
use Rattle.q_blocked.specs.Plans.{IsPlan}
use Rattle.q_blocked.specs.Targets.{target_of, HasPlan}

change-limits : (B : Bounds) (P : Prefix) (N : Slots) (t : Target) → Fits B P N (target_of t) → IsInLimits standard (formula_of P (live N)) → IsInLimits standard (change P N (target_of t))
change-limits B P N (Blocked c l) f h = less-limits P (others c N) (live N) (others-less N c f.0 f.1) h
change-limits B P N (BlockedForall c l) f h = subst (λ o. IsInLimits standard (formula_of P (shortened l o (others c N)))) (sym f.1) (less-limits P (without l f.0 ∷ others c N) (live N) (shortened-less l N c f.0 f.1) h)
change-limits B P N (Cover c) f h = less-limits P (others c N) (live N) (others-less N c f.0 f.1) h

pub fits-applies : (B : Bounds) (k : Seen) (t : Target) → IsInLimits standard (formula_in k) → Fits B k.prefix (slots k) (target_of t) → Applicable B k.prefix (slots k) (target_of t)
fits-applies B k t h f = record { fits = f; in_limits = change-limits B k.prefix (slots k) t f h }

-- A clause goes by its pivot.
pub changed-blocked : (old new : Seen) (c : ℕ) (l : Literal) → IsSound old → IsInLimits standard (formula_in old) → CanChange old → ((C : Clause) → slot (slots old) c ≡ Some C → IsIn l C) → IsDeleted old new c (λ C. Some l) → IsChanged old new (theory.blocked c l)
changed-blocked old new c l s h b held d = record {
  led = d.logged.led;
  alike = record { prefix = sym d.prefix; clauses = subst (λ (X : Matrix). SameClauses X (live (slots new))) (ap live d.change ∙ live-gone (slots old) c) (alike-refl (live (slots new))) };
  limits = limits-gone old new c d.clause d.was d.change d.prefix h;
  bytes = subst (λ P. 16 * (size_of (live (slots new)) + length P) ≤ new.spare_bytes) (sym d.prefix)
      (bytes-deleted (size_of (live (slots old))) (size_of (live (slots new))) (length d.clause) (length old.prefix) old.spare_bytes new.spare_bytes (length (step_text (delete (Some l) d.clause)))
      (size-deleted old new c d.clause d.was d.change) (change-sweep old b) d.logged.bytes (delete-cost old c d.clause s d.was l (held d.clause d.was)));
}

-- A literal leaves its clause.
pub changed-blocked_forall : (old new : Seen) (c : ℕ) (l : Literal) → IsSound old → IsInLimits standard (formula_in old) → CanChange old → ((C : Clause) → slot (slots old) c ≡ Some C → IsIn l C) → IsDropped old new c l → IsChanged old new (theory.blocked_forall c l)
changed-blocked_forall old new c l s h b held d = let r = changed-cut old new c l s h b held d in record { led = r.led; alike = r.alike; limits = r.limits; bytes = r.bytes }

-- A plan stays one while the clause of each id does.
pub plan-view : (old new : Seen) (t : Target) (p : Plan) → SameView old new → HasPlan old.prefix (slots old) t p → HasPlan new.prefix (slots new) t p
plan-view old new (Blocked c l) p v h = h
plan-view old new (BlockedForall c l) p v h = h
plan-view old new (Cover c) p v (C, e, h) = (
  C,
  v.clauses c ∙ e,
  subst (λ (P : Prefix). IsPlan P (others c (slots new)) C p) (sym v.prefix)
      (subst (λ (X : Matrix). IsPlan old.prefix X C p) (others-same (slots old) (slots new) c (λ d. v.clauses d)) h),
)
