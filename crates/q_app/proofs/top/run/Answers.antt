use Rattle.std.proofs.Common.{refl}
use Rattle.q_sched.specs.AlarmViews.{view_alarm}
use Rattle.q_command.specs.Devices.{devices}
use Rattle.q_app.proofs.CommandLines.{said-usage}
use Rattle.q_app.proofs.StoppedRequests.{alarm-nothing, alarm-said, keeps-nothing, keeps-until, until-usage}
use Rattle.q_app.proofs.top.run.Goals as goal

pub returns-in-Some-clause-usage : goal.returns-in-Some-clause-usage
returns-in-Some-clause-usage g c = λ e. absurd (until-usage (view_alarm g.A.Alarm c.args.alarm.now) (view_alarm g.A.Alarm c.run_command.new.alarm) _ _ _ _ c.run_command.ensures.does e)

pub returns-in-Some-clause-keeps : goal.returns-in-Some-clause-keeps
returns-in-Some-clause-keeps g c =
    keeps-until (view_alarm g.A.Alarm c.args.alarm.now) (view_alarm g.A.Alarm c.run_command.new.alarm) (devices g.F.Files g.S.Sink c.args.files.now c.args.out.now) c.run_command.result (devices g.F.Files g.S.Sink c.run_command.new.files c.run_command.new.out) c.texts_are_read.ensures c.generated_is_read.ensures c.in-Some.command _ c.in-Some.ensures.fit c.in-Some.ensures.request c.run_command.ensures.does

pub returns-in-Some-clause-alarm : goal.returns-in-Some-clause-alarm
returns-in-Some-clause-alarm g c =
    alarm-said _ _ _ _ _ _ _ _ _ c.in-Some.ensures.request c.seconds_of.ensures c.is_plain.ensures c.run_command.ensures.alarm

pub returns-in-None-clause-keeps : goal.returns-in-None-clause-keeps
returns-in-None-clause-keeps g c =
    keeps-nothing (view_alarm g.A.Alarm c.args.alarm.now) (view_alarm g.A.Alarm c.args.alarm.now) (devices g.F.Files g.S.Sink c.args.files.now c.args.out.now) c.put.result (devices g.F.Files g.S.Sink c.args.files.now c.put.new.out) _ c.in-None.ensures.request
    (said-usage (devices g.F.Files g.S.Sink c.args.files.now c.args.out.now) (devices g.F.Files g.S.Sink c.args.files.now c.put.new.out) c.put.result refl c.put.ensures)

pub returns-in-None-clause-alarm : goal.returns-in-None-clause-alarm
returns-in-None-clause-alarm g c = alarm-nothing _ _ _ _ c.in-None.ensures.request _
