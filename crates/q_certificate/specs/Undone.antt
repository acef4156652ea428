-- One entry of an undo list, undone.
use Rattle.std.specs.Prelude.{ℕ, Bool, List, Option}
use Rattle.q_logic.specs.Prelude.{Strategy, UndoEntry, taken_back}
use Rattle.q_aig.specs.Prelude.{Net}
use Rattle.q_certificate.specs.Covered.{EntryCovered, weight}
use Rattle.q_certificate.specs.Standing.{AreLiterals, IsAt}
use Rattle.q_certificate.specs.Growing.{IsGrown}

pub record IsUndone (old new : Net) (ins tb tb2 : List (Option ℕ)) (u : UndoEntry) : Type 0 where
  pub grown : IsGrown old new (weight u)
  pub literals : AreLiterals new tb2
  pub at : (U : ℕ → Bool) → (c : Strategy) → IsAt old ins tb U c → EntryCovered U u c → IsAt new ins tb2 U (taken_back u c)
