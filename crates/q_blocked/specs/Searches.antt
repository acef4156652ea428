-- What a search for targets answers.
use Rattle.std.specs.Prelude.{◌≡◌, ◌≤◌, ◌<◌, ℕ, Option, None, Some}
use Rattle.q_logic.specs.declared.rule_bounds.Bounds.{Bounds}
use Rattle.q_logic.specs.Prelude.{Literal, place}
use Rattle.q_kernel.specs.Prelude.{Seen, Applies}
use Rattle.q_blocked.specs.Targets.{target_of}
use Rattle.q_blocked.specs.declared.target.Target.{Target}
use Rattle.q_blocked.specs.declared.target.Target.TheVariants.{Blocked, BlockedForall, Cover}

-- a target of a literal of a clause
abbrev pub IsOn : ℕ → Literal → Target → Type 0
IsOn c l (Blocked d k) = (d ≡ c) × (k ≡ l)
IsOn c l (BlockedForall d k) = (d ≡ c) × (k ≡ l)
IsOn c l (Cover d) = ⊥

-- a target of some literal of a clause
abbrev pub IsPivotOf : ℕ → Target → Type 0
IsPivotOf c (Blocked d k) = d ≡ c
IsPivotOf c (BlockedForall d k) = d ≡ c
IsPivotOf c (Cover d) = ⊥

-- a target at a place from one on and below another
abbrev pub IsWithin : ℕ → ℕ → Target → Type 0
IsWithin from upto t = (from ≤ place (target_of t)) × (place (target_of t) < upto)

-- such a target that applies; none exactly where none of these applies
pub record FindsWithin (B : Bounds) (k : Seen) (from upto : ℕ) (answer : Option Target) : Type 0 where
  pub some : (t : Target) → answer ≡ Some t → IsWithin from upto t × Applies B k (target_of t)
  pub none : answer ≡ None → (t : Target) → IsWithin from upto t → Applies B k (target_of t) → ⊥
