-- What a search of all groups of rules answers.
use Rattle.std.specs.Prelude.{◌≡◌, ◌≤◌, ◌<◌, ℕ, Option, Some, None}
use Rattle.q_logic.specs.declared.rule_bounds.Bounds.{Bounds}
use Rattle.q_logic.specs.Prelude.{Target, place}
use Rattle.q_kernel.specs.Prelude.{Seen, Applies}
use Rattle.q_sched.specs.declared.moves.Group.{Group}
use Rattle.q_sched.specs.declared.moves.Move.{Move}
use Rattle.q_sched.specs.Moves.{target_of, rank_of, IsOf}

-- a target of a group that applies and whose place is at least a number; none exactly where no such target applies
pub record FindsOf (g : Group) (B : Bounds) (k : Seen) (from : ℕ) (answer : Option Move) : Type 0 where
  pub some : (m : Move) → answer ≡ Some m → IsOf g (target_of m) × (from ≤ place (target_of m)) × Applies B k (target_of m)
  pub none : answer ≡ None → (t : Target) → IsOf g t → from ≤ place t → Applies B k t → ⊥

-- no target of the groups below a place of the order applies
abbrev pub NoneBelow : Bounds → Seen → ℕ → Type 0
NoneBelow B k n = (t : Target) → rank_of t < n → Applies B k t → ⊥

-- no target of the groups that are searched before this target's applies
abbrev pub IsOfFirst : Bounds → Seen → Target → Type 0
IsOfFirst B k t = NoneBelow B k (rank_of t)
