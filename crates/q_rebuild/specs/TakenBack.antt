-- A whole undo list, undone.
use Rattle.std.specs.Prelude.{ℕ, ◌+◌, Bool, List, [], ◌∷◌, Option}
use Rattle.q_logic.specs.Prelude.{Strategy, UndoEntry, Back}
use Rattle.q_aig.specs.Prelude.{Net}
use Rattle.q_certificate.specs.Prelude.{EntryCovered, weight, AreLiterals, IsAt, IsGrown}

-- whenever an entry is undone, what its outer clauses hold has a circuit or is an input
abbrev pub AreCovered : (ℕ → Bool) → List UndoEntry → Strategy → Type 0
AreCovered U [] c = Unit {0}
AreCovered U (u ∷ us) c = EntryCovered U u (Back us c) × AreCovered U us c

-- the literals and the clauses of an undo list
abbrev pub weights : List UndoEntry → ℕ
weights [] = 0
weights (u ∷ us) = weight u + weights us

pub record AreUndone (old new : Net) (ins tb tb2 : List (Option ℕ)) (us : List UndoEntry) : Type 0 where
  pub grown : IsGrown old new (weights us)
  pub literals : AreLiterals new tb2
  pub at : (U : ℕ → Bool) → (c : Strategy) → IsAt old ins tb U c → AreCovered U us c → IsAt new ins tb2 U (Back us c)
