-- A place for a checker.
use Rattle.std.specs.Prelude.{false, List, [], ◌∷◌}
use Rattle.q_logic.specs.Prelude.{standard}
use Rattle.q_check.specs.Checked.{Checked}

-- the checker that stands first in a row; in an empty row, one over no formula
abbrev pub boxed : List Checked → Checked
boxed [] = record { formula = record { prefix = []; matrix = [] }; undo = []; limits = standard; keeps = false }
boxed (c ∷ others) = c
