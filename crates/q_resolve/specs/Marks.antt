-- Marks of literals, by their places.
use Rattle.std.specs.Prelude.{◌≡◌, ◌↔◌, Bool, true, List}
use Rattle.q_logic.specs.Prelude.{Literal, pack, IsIn}
use Rattle.q_pages.specs.ByNumber.{Values, value_at}

-- the marks are those of the literals in the list
abbrev pub IsMarked : Values Bool → List Literal → Type 0
IsMarked marks lits = (l : Literal) → (value_at marks (pack l) ≡ true) ↔ IsIn l lits
