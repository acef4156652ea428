-- Merges by a number and a variable, as the code holds them.
use Rattle.std.specs.Prelude.{ℕ, Bool, ◌&&◌, nat_eq, Option}
use Rattle.std.specs.HashMap.{get}
use Rattle.q_extract.specs.declared.said.Sayings.{Sayings}

-- keys are equal
abbrev pub key_eq : ℕ × ℕ → ℕ × ℕ → Bool
key_eq a b = nat_eq a.0 b.0 && nat_eq a.1 b.1

-- the merge that is said to give the variable's value
abbrev pub said_in : Sayings → ℕ → ℕ → Option ℕ
said_in s n x = get key_eq s.merges (n, x)
