use Rattle.q_prop.specs.Slots.{filled}
use Rattle.q_judge.proofs.FinishedWalk.{IsWalk}
use Rattle.q_judge.proofs.reach.is_reducible.Given as goal

abbrev pub invariant-loop-head : goal.invariant-loop-head
invariant-loop-head l = IsWalk l.view.prefix (filled l.view.slots) l.clause l.lit l.head l.trail
