-- What a crate of rules answers: where a target was tried, and where one was looked for.
use Rattle.std.specs.Prelude.{◌≡◌, ◌↔◌, ◌≤◌, ℕ, Option, None, Some}
use Rattle.q_logic.specs.declared.rule_bounds.Bounds.{Bounds}
use Rattle.q_logic.specs.Prelude.{Target, place, Fits, standard, IsInLimits}
use Rattle.q_kernel.specs.Prelude.{Seen, SameView, slots, formula_in, Applies, IsTaken}
use Rattle.q_kernel.specs.declared.taken.Taken.{Taken}
use Rattle.q_kernel.specs.declared.taken.Taken.TheVariants.{Yes, No}
use Rattle.q_rule.specs.Becoming.{CanChange}

-- `Yes` exactly where the target applies, and then it was taken; otherwise nothing has changed
pub record Tries (B : Bounds) (old new : Seen) (t : Target) (answer : Taken) : Type 0 where
  pub applies : (answer ≡ Yes) ↔ Applies B old t
  pub yes : answer ≡ Yes → IsTaken B old new t
  pub no : answer ≡ No → SameView old new

-- a target that applies and whose place is at least a number; none exactly where no such target applies
pub record Finds {T : Type 0} (target_of : T → Target) (B : Bounds) (k : Seen) (from : ℕ) (answer : Option T) : Type 0 where
  pub some : (t : T) → answer ≡ Some t → Applies B k (target_of t) × (from ≤ place (target_of t))
  pub none : answer ≡ None → (t : T) → from ≤ place (target_of t) → Applies B k (target_of t) → ⊥

-- a target at a place
abbrev pub IsAt : {T : Type 0} → (T → Target) → ℕ → T → Type 0
IsAt target_of p t = place (target_of t) ≡ p

-- a target of some kind that fits; none exactly where none of that kind does
pub record IsFound {T : Type 0} (target_of : T → Target) (k : Seen) (Q : T → Type 0) (answer : Option T) : Type 0 where
  pub some : (t : T) → answer ≡ Some t → Q t × ((B : Bounds) → Fits B k.prefix (slots k) (target_of t))
  pub none : answer ≡ None → (t : T) → Q t → (B : Bounds) → Fits B k.prefix (slots k) (target_of t) → ⊥

-- the change of a target may be made: its conditions hold, and there are log bytes for it and the sweep after it
pub record MayTake (k : Seen) (t : Target) : Type 0 where
  pub fits : (B : Bounds) → Fits B k.prefix (slots k) t
  pub limits : IsInLimits standard (formula_in k)
  pub bytes : CanChange k
