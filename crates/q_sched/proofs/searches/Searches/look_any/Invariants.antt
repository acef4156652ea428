use Rattle.q_reduce.specs.Learned.{IsFitFor}
use Rattle.q_sched.specs.AlarmViews.{view_alarm}
use Rattle.q_sched.specs.Alarms.{IsQuiet}
use Rattle.q_sched.specs.Searching.{NoneBelow}
use Rattle.q_sched.proofs.searches.Searches.look_any.Given as goal

abbrev pub invariant-loop-place : goal.invariant-loop-place
invariant-loop-place g l = record {
  fit : IsFitFor l.kernel l.self;
  none : NoneBelow l.bounds l.kernel l.place;
  quiet : IsQuiet (view_alarm g.A.Alarm l.fn.alarm) (view_alarm g.A.Alarm l.alarm);
}
