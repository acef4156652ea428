-- The targets of all rules, as targets of the theory, and the groups of their rules.
use Rattle.std.specs.Prelude.{◌≡◌, ℕ}
use Rattle.q_logic.specs.Targets as theory
use Rattle.q_logic.specs.Prelude.{tautology, unit, cut, pure, subsumed, strengthen, merge, blocked, blocked_forall, cover, eliminate, expand_universal}
use Rattle.q_reduce.specs.Targets as plain
use Rattle.q_subsume.specs.Targets as subsume
use Rattle.q_equiv.specs.Targets as equiv
use Rattle.q_blocked.specs.Targets as blocked
use Rattle.q_eliminate.specs.Targets as eliminate
use Rattle.q_expand.specs.Targets as expand
use Rattle.q_sched.specs.declared.moves.Group.{Group}
use Rattle.q_sched.specs.declared.moves.Group.TheVariants as group
use Rattle.q_sched.specs.declared.moves.Move.{Move}
use Rattle.q_sched.specs.declared.moves.Move.TheVariants as move

abbrev pub target_of : Move → theory.Target
target_of (move.Reduce t) = plain.target_of t
target_of (move.Subsume t) = subsume.target_of t
target_of (move.Merge t) = equiv.target_of t
target_of (move.Block t) = blocked.target_of t
target_of (move.Eliminate t) = eliminate.target_of t
target_of (move.Expand t) = expand.target_of t

-- the groups of rules in the order in which they are searched
abbrev pub rank : Group → ℕ
rank group.Reduce = 0
rank group.Subsume = 1
rank group.Merge = 2
rank group.Block = 3
rank group.Eliminate = 4
rank group.Expand = 5

-- how many of them there are
abbrev pub groups : ℕ
groups = 6

-- the place in that order of the group of a target's rule
abbrev pub rank_of : theory.Target → ℕ
rank_of (tautology c) = 0
rank_of (unit c) = 0
rank_of (cut c l) = 0
rank_of (pure l) = 0
rank_of (subsumed c d) = 1
rank_of (strengthen c d l) = 1
rank_of (merge keep gone) = 2
rank_of (blocked c l) = 3
rank_of (blocked_forall c l) = 3
rank_of (cover c) = 3
rank_of (eliminate x) = 4
rank_of (expand_universal u) = 5

-- the target is one of the group's
abbrev pub IsOf : Group → theory.Target → Type 0
IsOf g t = rank_of t ≡ rank g
