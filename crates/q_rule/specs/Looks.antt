-- What is seen of a clause in order from a place on.
use Rattle.std.specs.Prelude.{◌≤◌, ℕ, drop}
use Rattle.q_logic.specs.Prelude.{Literal, pack, Clause, IsIn}

-- no literal from a place on is below k
abbrev pub IsLeastFrom : Clause → ℕ → Literal → Type 0
IsLeastFrom D at' k = (j : Literal) → IsIn j (drop at' D) → pack k ≤ pack j
