-- Unit clauses: those of exactly one literal.
use Rattle.std.specs.Prelude.{◌+◌, ℕ, [], ◌∷◌}
use Rattle.q_logic.specs.Prelude.{Clause, Matrix}

-- 1 for a unit clause
abbrev pub unit_ones : Clause → ℕ
unit_ones [] = 0
unit_ones (l ∷ []) = 1
unit_ones (l ∷ k ∷ C) = 0

-- how many there are
abbrev pub units_in : Matrix → ℕ
units_in [] = 0
units_in (C ∷ X) = unit_ones C + units_in X
