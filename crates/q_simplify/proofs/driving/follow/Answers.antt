use Rattle.std.proofs.Common.{IfOk, subst}
use Rattle.q_sched.specs.Drives.{Driving}
use Rattle.q_sched.specs.AlarmViews.{view_alarm}
use Rattle.q_simplify.specs.Stops.{TurnsEndFrom}
use Rattle.q_simplify.proofs.driving.follow.Goals as goal

pub returns-clause-stops : goal.returns-clause-stops
returns-clause-stops g c =
    subst (λ (d : Driving). IfOk c.take_turns.result (λ t. TurnsEndFrom (view_alarm g.A.Alarm c.args.alarm.now) (view_alarm g.A.Alarm c.take_turns.new.alarm) t d c.args.kernel.now c.take_turns.new.kernel)) c.start-drive.ensures.seen c.take_turns.ensures.stops
