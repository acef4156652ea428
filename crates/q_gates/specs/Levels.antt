-- Levels of gates that never rise from a gate to one that it uses.
use Rattle.std.specs.Prelude.{◌≤◌, ◌<◌, ℕ, List, slice_index_or}
use Rattle.q_gates.specs.Uses.{Parts, Uses}

-- the level of a gate: 0 where the list has none
abbrev pub level_of : List ℕ → ℕ → ℕ
level_of levels g = slice_index_or levels g 0

abbrev pub NeverRise : Parts → List ℕ → Type 0
NeverRise ps levels = (g h : ℕ) → Uses ps g h → level_of levels h ≤ level_of levels g

-- each gate that this one uses is on a lower level
abbrev pub Falls : Parts → List ℕ → ℕ → Type 0
Falls ps levels g = (h : ℕ) → Uses ps g h → level_of levels h < level_of levels g
