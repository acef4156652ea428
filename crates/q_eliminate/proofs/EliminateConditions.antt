-- The conditions by a literal are those of the target.
use Rattle.std.proofs.Common.{◌≡◌, ℕ, true}
use Rattle.q_logic.specs.declared.rule_bounds.Bounds.{Bounds}
use Rattle.q_logic.specs.Prelude.{positive, is_existential, live}
use Rattle.q_logic.specs.Targets as theory
use Rattle.q_kernel.specs.Prelude.{Seen, slots, Applies}
use Rattle.q_eliminate.specs.Plans.{MayGo}

pub may-apply : (B : Bounds) (k : Seen) (x : ℕ) → is_existential k.prefix x ≡ true → MayGo B.grow k.prefix (live (slots k)) (positive x) → Applies B k (theory.eliminate x)
may-apply B k x e m = record {
  fits = record { existential = e; occurs = m.split.occurs; no_tautology = m.split.no_tautology; outer_side = m.split.outer_side; small = m.small };
  in_limits = m.limits;
}

pub apply-may : (B : Bounds) (k : Seen) (x : ℕ) → Applies B k (theory.eliminate x) → MayGo B.grow k.prefix (live (slots k)) (positive x)
apply-may B k x a = record {
  split = record { occurs = a.fits.occurs; no_tautology = a.fits.no_tautology; outer_side = a.fits.outer_side };
  small = a.fits.small;
  limits = a.in_limits;
}
