-- The targets of this crate, as targets of the theory.
use Rattle.std.specs.Prelude.{ℕ}
use Rattle.q_logic.specs.Targets as theory
use Rattle.q_subsume.specs.declared.target.Target.{Target}
use Rattle.q_subsume.specs.declared.target.Target.TheVariants.{Subsumed, Strengthen}

abbrev pub target_of : Target → theory.Target
target_of (Subsumed c d) = theory.subsumed c d
target_of (Strengthen c d l) = theory.strengthen c d l

-- the clause that lies within the other one
abbrev pub inner_of : Target → ℕ
inner_of (Subsumed c d) = c
inner_of (Strengthen c d l) = c
