-- What a search under an alarm answers, and that it gives way only where the alarm rang.
use Rattle.q_logic.specs.declared.rule_bounds.Bounds.{Bounds}
use Rattle.q_logic.specs.Prelude.{Target}
use Rattle.q_kernel.specs.Prelude.{Seen, Applies}
use Rattle.q_sched.specs.declared.looking.Look.{Look}
use Rattle.q_sched.specs.declared.looking.Look.TheVariants.{Found, Nothing, GaveWay}
use Rattle.q_sched.specs.declared.moves.Group.{Group}
use Rattle.q_sched.specs.declared.turns.Turn.{Turn}
use Rattle.q_sched.specs.declared.turns.Turn.TheVariants as turn
use Rattle.q_sched.specs.Alarms.{AlarmView, IsQuiet, IsRung}
use Rattle.q_sched.specs.Moves.{target_of, IsOf}
use Rattle.q_sched.specs.Searching.{IsOfFirst}
use Rattle.q_sched.specs.Settled.{IsDone}

-- a target of a group that applies; none exactly where none of its targets does; nothing is said where it gave way
abbrev pub LooksOf : Group → Bounds → Seen → Look → Type 0
LooksOf g B k (Found m) = IsOf g (target_of m) × Applies B k (target_of m)
LooksOf g B k Nothing = (t : Target) → IsOf g t → Applies B k t → ⊥
LooksOf g B k GaveWay = Unit {0}

-- the same of all groups: a target of the first one that has any
abbrev pub LooksAny : Bounds → Seen → Look → Type 0
LooksAny B k (Found m) = IsOfFirst B k (target_of m) × Applies B k (target_of m)
LooksAny B k Nothing = IsDone B k
LooksAny B k GaveWay = Unit {0}

-- the alarm over a search
abbrev pub HeedsIn : Look → AlarmView → AlarmView → Type 0
HeedsIn (Found m) before after = IsQuiet before after
HeedsIn Nothing before after = IsQuiet before after
HeedsIn GaveWay before after = IsRung before after

-- the alarm over a turn
abbrev pub Heeds : Turn → AlarmView → AlarmView → Type 0
Heeds turn.Moved before after = IsQuiet before after
Heeds turn.Asked before after = IsQuiet before after
Heeds turn.Settled before after = IsQuiet before after
Heeds turn.Spent before after = IsQuiet before after
Heeds turn.GaveWay before after = IsRung before after
