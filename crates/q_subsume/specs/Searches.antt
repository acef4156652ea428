-- What a search for targets answers.
use Rattle.std.specs.Prelude.{◌≡◌, ◌≤◌, ◌<◌, ℕ}
use Rattle.q_logic.specs.Prelude.{Literal, place}
use Rattle.q_kernel.specs.Prelude.{Seen, HoldsLiteral}
use Rattle.q_subsume.specs.declared.target.Target.{Target}
use Rattle.q_subsume.specs.Targets.{target_of, inner_of}

-- the clause c lies within the clause d
pub record IsBetween (c d : ℕ) (t : Target) : Type 0 where
  pub inner : inner_of t ≡ c
  pub other : place (target_of t) ≡ d

-- the clause c lies within a clause from a number on
pub record IsBy (c from : ℕ) (t : Target) : Type 0 where
  pub inner : inner_of t ≡ c
  pub order : from ≤ place (target_of t)

-- a clause from the number start on, or before the number end, lies within a clause from a number on
pub record IsBehind (start from : ℕ) (t : Target) : Type 0 where
  pub behind : start ≤ inner_of t
  pub order : from ≤ place (target_of t)

pub record IsBefore (end from : ℕ) (t : Target) : Type 0 where
  pub before : inner_of t < end
  pub order : from ≤ place (target_of t)

-- the clause c lies within a clause from a number on that holds a literal
pub record IsAmong (k : Seen) (c from : ℕ) (l : Literal) (t : Target) : Type 0 where
  pub by_clause : IsBy c from t
  pub holds : HoldsLiteral k (place (target_of t)) l
