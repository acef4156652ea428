-- The targets of this crate, as targets of the theory.
use Rattle.q_logic.specs.Targets as theory
use Rattle.q_eliminate.specs.declared.target.Target.{Target}
use Rattle.q_eliminate.specs.declared.target.Target.TheVariants.{Eliminate}

abbrev pub target_of : Target → theory.Target
target_of (Eliminate x) = theory.eliminate x
