-- Reversals as the code keeps them.
use Rattle.std.specs.Prelude.{List, [], ◌∷◌, Option, Some, None}
use Rattle.q_logic.specs.Reversals.{Reversal, added, turned, plain, freshened, removed}
use Rattle.q_herbrand.specs.declared.reversal.Reversal.{Reversal as Entry}
use Rattle.q_herbrand.specs.declared.reversal.Reversal.TheVariants.{Added, Turned, Plain, Fresh, Removed}

abbrev pub entry_of : Entry → Reversal
entry_of (Added l outers) = added l outers
entry_of (Turned l outers) = turned l outers
entry_of (Plain l same within) = plain l same within
entry_of (Fresh v) = freshened v
entry_of (Removed v) = removed v

-- one entry or none
abbrev pub entries_of : Option Entry → List Reversal
entries_of None = []
entries_of (Some r) = entry_of r ∷ []
