use Rattle.q_prop.specs.Slots.{without, filled}
use Rattle.q_prop.specs.Working.{IsReached}
use Rattle.q_prop.proofs.glance.look_along.Given as goal

abbrev pub invariant-loop-i : goal.invariant-loop-i
invariant-loop-i l = IsReached (filled (without l.watched.clauses.slots l.skip)) l.fn.trail l.trail
