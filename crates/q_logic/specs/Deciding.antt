-- Plain, slow programs that decide where a target applies. They are there to be computed at small formulas.
use Rattle.std.specs.Prelude.{Bool, ◌&&◌}
use Rattle.q_logic.specs.declared.rule_bounds.Bounds.{Bounds}
use Rattle.q_logic.specs.Formulas.{Prefix}
use Rattle.q_logic.specs.Numbered.{Slots}
use Rattle.q_logic.specs.Targets.{Target, rule}
use Rattle.q_logic.specs.Limits.{standard}
use Rattle.q_logic.specs.InLimits.{is_in_limits}
use Rattle.q_logic.specs.Rules.{change}

-- where the conditions of a target hold
abbrev pub fits : Bounds → Prefix → Slots → Target → Bool
fits B P N t = (rule t).test B P N

-- where a target applies
abbrev pub applicable : Bounds → Prefix → Slots → Target → Bool
applicable B P N t = fits B P N t && is_in_limits standard (change P N t)
