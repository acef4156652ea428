-- The targets of this crate, as targets of the theory.
use Rattle.std.specs.Prelude.{◌≡◌, ◌≤◌, [], length, vec_capacity}
use Rattle.q_logic.specs.Prelude.{Prefix, Slots}
use Rattle.q_logic.specs.Targets as theory
use Rattle.q_blocked.specs.declared.target.Target.{Target}
use Rattle.q_blocked.specs.declared.target.Target.TheVariants.{Blocked, BlockedForall, Cover}
use Rattle.q_blocked.specs.declared.plan.Plan.{Plan}
use Rattle.q_blocked.specs.declared.search.Search.{Search}
use Rattle.q_kernel.specs.Prelude.{Seen, slots}
use Rattle.q_blocked.specs.Plans.{IsPlanFor, HasRoomFor}

abbrev pub target_of : Target → theory.Target
target_of (Blocked c l) = theory.blocked c l
target_of (BlockedForall c l) = theory.blocked_forall c l
target_of (Cover c) = theory.cover c

-- the plan has what a target takes beside its one step
abbrev pub HasPlan : Prefix → Slots → Target → Plan → Type 0
HasPlan P N (Blocked c l) p = p.stages.items ≡ []
HasPlan P N (BlockedForall c l) p = p.stages.items ≡ []
HasPlan P N (Cover c) p = IsPlanFor P N c p

-- the search has the steps of a target, and there is room for them
pub record HasSteps (k : Seen) (s : Search) (t : Target) : Type 0 where
  pub plan : HasPlan k.prefix (slots k) t s.growth.plan
  pub room : HasRoomFor k s.growth.plan.stages.items
  pub capacity : length s.growth.plan.lits.items ≤ vec_capacity s.larger
