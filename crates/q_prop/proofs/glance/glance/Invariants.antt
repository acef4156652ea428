use Rattle.std.proofs.Common.{◌-◌}
use Rattle.q_prop.specs.Slots.{without, filled}
use Rattle.q_prop.specs.Working.{IsReached}
use Rattle.q_prop.proofs.glance.glance.Given as goal

abbrev pub invariant-loop-head : goal.invariant-loop-head
invariant-loop-head l = IsReached (filled (without l.watched.clauses.slots l.skip)) l.fn.trail l.trail

abbrev pub decreases-loop-head : goal.decreases-loop-head
decreases-loop-head l = l.end - l.head
