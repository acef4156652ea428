-- The target of expansion among those of all rules.
use Rattle.q_logic.specs.Prelude.{Target, expand_universal}
use Rattle.q_expand.specs.declared.target.Target.{Target as Own}
use Rattle.q_expand.specs.declared.target.Target.TheVariants.{Expand}

abbrev pub target_of : Own → Target
target_of (Expand u) = expand_universal u
