use Rattle.std.proofs.Common.{◌-◌}
use Rattle.q_blocked.specs.Learned.{IsRightFor}
use Rattle.q_sched.specs.AlarmViews.{view_alarm}
use Rattle.q_sched.specs.Alarms.{IsQuiet}
use Rattle.q_sched.proofs.BlockedPlaces.{NoneTo}
use Rattle.q_sched.proofs.looking.look_for_blocked.Given as goal

abbrev pub invariant-loop-first : goal.invariant-loop-first
invariant-loop-first g l = record {
  right : IsRightFor l.kernel l.search;
  none : NoneTo l.bounds l.kernel l.from;
  quiet : IsQuiet (view_alarm g.A.Alarm l.fn.alarm) (view_alarm g.A.Alarm l.alarm);
}

abbrev pub decreases-loop-first : goal.decreases-loop-first
decreases-loop-first g l = 4294967296 - l.from
