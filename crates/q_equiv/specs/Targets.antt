-- The targets of this crate, as targets of the theory.
use Rattle.q_logic.specs.Prelude.{Literal, Prefix}
use Rattle.q_logic.specs.Targets as theory
use Rattle.q_equiv.specs.Changing.{CanStandFor}
use Rattle.q_equiv.specs.declared.target.Target.{Target}
use Rattle.q_equiv.specs.declared.target.Target.TheVariants.{Merge}

abbrev pub target_of : Target → theory.Target
target_of (Merge keep gone) = theory.merge keep gone

-- the literal that stays, and the one that goes
abbrev pub keep_of : Target → Literal
keep_of (Merge keep gone) = keep

abbrev pub gone_of : Target → Literal
gone_of (Merge keep gone) = gone

-- its literals have different variables, that of gone is existential, and that of keep is not inner to it
abbrev pub MayStand : Prefix → Target → Type 0
MayStand P (Merge keep gone) = CanStandFor P keep gone
