-- The targets of this crate, as targets of the theory.
use Rattle.q_logic.specs.Targets as theory
use Rattle.q_reduce.specs.declared.target.Target.{Target}
use Rattle.q_reduce.specs.declared.target.Target.TheVariants.{Tautology, Unit, Cut, Pure}

abbrev pub target_of : Target → theory.Target
target_of (Tautology c) = theory.tautology c
target_of (Unit c) = theory.unit c
target_of (Cut c l) = theory.cut c l
target_of (Pure l) = theory.pure l
