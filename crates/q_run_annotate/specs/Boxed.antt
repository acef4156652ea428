-- A place for an annotator.
use Rattle.std.specs.Prelude.{List, [], ◌∷◌}
use Rattle.q_logic.specs.Prelude.{standard}
use Rattle.q_check.specs.Annotations.{Annotating}

-- the annotator that stands first in a row; in an empty row, one over no formula
abbrev pub boxed : List Annotating → Annotating
boxed [] = record { formula = record { prefix = []; slots = [] }; limits = standard; steps = 0 }
boxed (a ∷ others) = a
