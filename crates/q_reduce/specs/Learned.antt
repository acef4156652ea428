-- What a search has learned of a formula, and lends to the next one.
use Rattle.std.specs.Prelude.{[], List}
use Rattle.q_kernel.specs.Prelude.{Seen}
use Rattle.q_reduce.specs.Regions.{RegionMap, AreRegionsOf}
use Rattle.q_reduce.specs.Forests.{ForestMap, AreForestsOf}

pub record Learned : Type 0 where
  pub regions : List RegionMap
  pub forests : List ForestMap

abbrev pub nothing_learned : Learned
nothing_learned = record { regions = []; forests = [] }

-- all of it is right for the formula of a kernel
pub record IsFitFor (k : Seen) (s : Learned) : Type 0 where
  pub regions : AreRegionsOf k s.regions
  pub forests : AreForestsOf k s.forests
