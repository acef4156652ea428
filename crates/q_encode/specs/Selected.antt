-- Selectors by their number.
use Rattle.std.specs.Prelude.{ℕ, zero, suc, ◌+◌, [], ◌∷◌}
use Rattle.q_logic.specs.Prelude.{Clause}
use Rattle.q_miter.specs.Miters.{selector}

-- so many selectors, behind n
abbrev pub selector_row : ℕ → ℕ → ℕ → ℕ → Clause
selector_row top gates n zero = []
selector_row top gates n (suc k) = selector top gates n ∷ selector_row top gates (n + 1) k
