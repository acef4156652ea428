-- A settled formula: swept, and no target applies.
use Rattle.std.specs.Prelude.{◌≡◌}
use Rattle.q_logic.specs.declared.rule_bounds.Bounds.{Bounds}
use Rattle.q_logic.specs.Formulas.{Prefix}
use Rattle.q_logic.specs.Numbered.{Slots, live, formula_of}
use Rattle.q_logic.specs.Targets.{Target}
use Rattle.q_logic.specs.Sweep.{swept}
use Rattle.q_logic.specs.Rules.{Applicable}

abbrev pub Settled : Bounds → Prefix → Slots → Type 0
Settled B P N = (swept (formula_of P (live N)) ≡ formula_of P (live N)) ×
    ((t : Target) → Applicable B P N t → ⊥)
