-- The rules of simplification: where a target applies to a numbered formula, and what it changes, each rule in a file of
-- its own. The family of rules is that of Biere, Lonsing and Seidl (CADE 2011) and of Heule, Seidl and Biere (IJCAR
-- 2014); the exact conditions are this project's own.
use Rattle.q_logic.specs.declared.rule_bounds.Bounds.{Bounds}
use Rattle.q_logic.specs.Formulas.{Prefix, PrenexFormula}
use Rattle.q_logic.specs.Numbered.{Slots}
use Rattle.q_logic.specs.Targets.{Target, rule}
use Rattle.q_logic.specs.InLimits.{IsInLimits}
use Rattle.q_logic.specs.Limits.{standard}
use Rattle.q_logic.specs.Sweep.{swept}
pub use Rattle.q_logic.specs.Rule.{shortened}
pub use Rattle.q_logic.specs.Rules.Unit.{head_of, assigned}
pub mod Tautology
pub mod Unit
pub mod Cut
pub mod Pure
pub mod Subsumed
pub mod Strengthen
pub mod Merge
pub mod Blocked
pub mod BlockedForall
pub mod Cover
pub mod Eliminate
pub mod ExpandUniversal

-- the conditions of each target
abbrev pub Fits : Bounds → Prefix → Slots → Target → Type 0
Fits B P N t = (rule t).condition B P N

-- what each target changes, before sweeping
abbrev pub change : Prefix → Slots → Target → PrenexFormula
change P N t = (rule t).change P N

-- a target applies where its conditions hold and its change, before sweeping, keeps the limits
pub record Applicable (B : Bounds) (P : Prefix) (N : Slots) (t : Target) : Type 0 where
  pub fits : Fits B P N t
  pub in_limits : IsInLimits standard (change P N t)

-- the result: the change, swept
abbrev pub result_of : Prefix → Slots → Target → PrenexFormula
result_of P N t = swept (change P N t)
