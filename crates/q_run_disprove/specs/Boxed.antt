-- Places for a checker, for one of hints, and for a trail.
use Rattle.std.specs.Prelude.{false, List, [], ◌∷◌}
use Rattle.q_logic.specs.Prelude.{standard}
use Rattle.q_check.specs.Checked.{Checked}
use Rattle.q_check.specs.HintChecks.{HintChecked}
use Rattle.q_herbrand.specs.Trails.{Trailed}

-- the checker that stands first in a row; in an empty row, one over no formula
abbrev pub boxed_checker : List Checked → Checked
boxed_checker [] = record { formula = record { prefix = []; matrix = [] }; undo = []; limits = standard; keeps = false }
boxed_checker (c ∷ others) = c

-- the checker of hints that stands first in a row; in an empty row, one over no formula
abbrev pub boxed_hint_checker : List HintChecked → HintChecked
boxed_hint_checker [] = record { formula = record { prefix = []; slots = [] }; undo = []; limits = standard; keeps = false; steps = 0 }
boxed_hint_checker (c ∷ others) = c

-- the trail that stands first in a row; in an empty row, one over no formula
abbrev pub boxed_trail : List Trailed → Trailed
boxed_trail [] = record { formula = record { prefix = []; matrix = [] }; reversals = [] }
boxed_trail (t ∷ others) = t
