-- What a rule promises where it takes a target.
use Rattle.std.specs.Prelude.{◌≤◌, ◌+◌}
use Rattle.q_logic.specs.declared.rule_bounds.Bounds.{Bounds}
use Rattle.q_logic.specs.Prelude.{IsSwept, measure_of, standard, IsInLimits, Target, Applicable, result_of, AreAlike}
use Rattle.q_kernel.specs.Kernels.{Seen, slots, formula_in}
use Rattle.q_kernel.specs.Changes.{IsLed}

-- a rule may be tried: the formula is swept and within the limits
pub record IsReady (k : Seen) : Type 0 where
  pub swept : IsSwept (formula_in k)
  pub limits : IsInLimits standard (formula_in k)

-- the target applies to the formula of the kernel
abbrev pub Applies : Bounds → Seen → Target → Type 0
Applies B k t = Applicable B k.prefix (slots k) t

-- the target was taken: steps lead to its result, and the measure is lower
pub record IsTaken (B : Bounds) (old new : Seen) (t : Target) : Type 0 where
  pub applies : Applies B old t
  pub led : IsLed old new
  pub result : AreAlike (result_of old.prefix (slots old) t) (formula_in new)
  pub lower : measure_of B (formula_in new) + 1 ≤ measure_of B (formula_in old)
  pub ready : IsReady new
