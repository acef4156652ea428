-- One entry taken in the graph as it stands.
use Rattle.std.specs.Prelude.{ℕ, Bool, List, Option}
use Rattle.q_logic.specs.Prelude.{Strategy}
use Rattle.q_aig.specs.Prelude.{Net}
use Rattle.q_certificate.specs.Prelude.{AreLiterals, IsAt, IsGrown}
use Rattle.q_logic.specs.Reversals.{Reversal, carried}
use Rattle.q_herbrand.specs.Covered.{EntryCovered, weight}

pub record IsCarried (old new : Net) (ins tb tb2 : List (Option ℕ)) (r : Reversal) : Type 0 where
  pub grown : IsGrown old new (weight r)
  pub literals : AreLiterals new tb2
  pub at : (U : ℕ → Bool) → (c : Strategy) → IsAt old ins tb U c → EntryCovered U r c →
      IsAt new ins tb2 U (carried r c)
