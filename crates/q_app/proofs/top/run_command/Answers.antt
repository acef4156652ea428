use Rattle.std.proofs.Common.{ap}
use Rattle.q_sched.specs.AlarmViews.{view_alarm}
use Rattle.q_app.specs.Commands.{commands_of}
use Rattle.q_app.proofs.StoppedRequests.{alarm-heard, alarm-left, as-asked, simplifies-so}
use Rattle.q_app.proofs.top.run_command.Goals as goal

pub returns-in-Check-clause-does : goal.returns-in-Check-clause-does
returns-in-Check-clause-does g c = as-asked (view_alarm g.A.Alarm c.args.alarm.now) (view_alarm g.A.Alarm c.args.alarm.now) _ _ _ c.args.command _ c.in-Check.is c.run_check.ensures.runs

pub returns-in-Check-clause-alarm : goal.returns-in-Check-clause-alarm
returns-in-Check-clause-alarm g c = alarm-left _ _ _ c.args.command _ c.in-Check.is tt _

pub returns-in-Share-clause-does : goal.returns-in-Share-clause-does
returns-in-Share-clause-does g c = as-asked (view_alarm g.A.Alarm c.args.alarm.now) (view_alarm g.A.Alarm c.args.alarm.now) _ _ _ c.args.command _ c.in-Share.is c.run_share.ensures

pub returns-in-Share-clause-alarm : goal.returns-in-Share-clause-alarm
returns-in-Share-clause-alarm g c = alarm-left _ _ _ c.args.command _ c.in-Share.is tt _

pub returns-in-Simplify-clause-does : goal.returns-in-Simplify-clause-does
returns-in-Simplify-clause-does g c = simplifies-so (view_alarm g.A.Alarm c.args.alarm.now) (view_alarm g.A.Alarm c.run_simplify.new.alarm) _ _ _ c.args.command _ _ (ap commands_of c.in-Simplify.is) c.run_simplify.ensures.runs

pub returns-in-Simplify-clause-alarm : goal.returns-in-Simplify-clause-alarm
returns-in-Simplify-clause-alarm g c = alarm-heard _ _ _ c.args.command _ _ (ap commands_of c.in-Simplify.is) _ _ c.run_simplify.ensures.alarm

pub returns-in-Rebuild-clause-does : goal.returns-in-Rebuild-clause-does
returns-in-Rebuild-clause-does g c = as-asked (view_alarm g.A.Alarm c.args.alarm.now) (view_alarm g.A.Alarm c.args.alarm.now) _ _ _ c.args.command _ c.in-Rebuild.is c.run_rebuild.ensures

pub returns-in-Rebuild-clause-alarm : goal.returns-in-Rebuild-clause-alarm
returns-in-Rebuild-clause-alarm g c = alarm-left _ _ _ c.args.command _ c.in-Rebuild.is tt _

pub returns-in-Generate-clause-does : goal.returns-in-Generate-clause-does
returns-in-Generate-clause-does g c = as-asked (view_alarm g.A.Alarm c.args.alarm.now) (view_alarm g.A.Alarm c.args.alarm.now) _ _ _ c.args.command _ c.in-Generate.is c.run_generate.ensures.runs

pub returns-in-Generate-clause-alarm : goal.returns-in-Generate-clause-alarm
returns-in-Generate-clause-alarm g c = alarm-left _ _ _ c.args.command _ c.in-Generate.is tt _

pub returns-in-Validate-clause-does : goal.returns-in-Validate-clause-does
returns-in-Validate-clause-does g c = as-asked (view_alarm g.A.Alarm c.args.alarm.now) (view_alarm g.A.Alarm c.args.alarm.now) _ _ _ c.args.command _ c.in-Validate.is c.run.ensures

pub returns-in-Validate-clause-alarm : goal.returns-in-Validate-clause-alarm
returns-in-Validate-clause-alarm g c = alarm-left _ _ _ c.args.command _ c.in-Validate.is tt _

pub returns-in-Refute-clause-does : goal.returns-in-Refute-clause-does
returns-in-Refute-clause-does g c = as-asked (view_alarm g.A.Alarm c.args.alarm.now) (view_alarm g.A.Alarm c.args.alarm.now) _ _ _ c.args.command _ c.in-Refute.is c.run-in-Refute.ensures

pub returns-in-Refute-clause-alarm : goal.returns-in-Refute-clause-alarm
returns-in-Refute-clause-alarm g c = alarm-left _ _ _ c.args.command _ c.in-Refute.is tt _

pub returns-in-Annotate-clause-does : goal.returns-in-Annotate-clause-does
returns-in-Annotate-clause-does g c = as-asked (view_alarm g.A.Alarm c.args.alarm.now) (view_alarm g.A.Alarm c.args.alarm.now) _ _ _ c.args.command _ c.in-Annotate.is c.run-in-Annotate.ensures

pub returns-in-Annotate-clause-alarm : goal.returns-in-Annotate-clause-alarm
returns-in-Annotate-clause-alarm g c = alarm-left _ _ _ c.args.command _ c.in-Annotate.is tt _

pub returns-in-AnnotateShare-clause-does : goal.returns-in-AnnotateShare-clause-does
returns-in-AnnotateShare-clause-does g c = as-asked (view_alarm g.A.Alarm c.args.alarm.now) (view_alarm g.A.Alarm c.args.alarm.now) _ _ _ c.args.command _ c.in-AnnotateShare.is c.run_part.ensures

pub returns-in-AnnotateShare-clause-alarm : goal.returns-in-AnnotateShare-clause-alarm
returns-in-AnnotateShare-clause-alarm g c = alarm-left _ _ _ c.args.command _ c.in-AnnotateShare.is tt _

pub returns-in-Show-clause-does : goal.returns-in-Show-clause-does
returns-in-Show-clause-does g c = as-asked (view_alarm g.A.Alarm c.args.alarm.now) (view_alarm g.A.Alarm c.args.alarm.now) _ _ _ c.args.command _ c.in-Show.is c.run-in-Show.ensures

pub returns-in-Show-clause-alarm : goal.returns-in-Show-clause-alarm
returns-in-Show-clause-alarm g c = alarm-left _ _ _ c.args.command _ c.in-Show.is tt _

pub returns-in-Solve-clause-does : goal.returns-in-Solve-clause-does
returns-in-Solve-clause-does g c = as-asked (view_alarm g.A.Alarm c.args.alarm.now) (view_alarm g.A.Alarm c.args.alarm.now) _ _ _ c.args.command _ c.in-Solve.is c.run-in-Solve.ensures

pub returns-in-Solve-clause-alarm : goal.returns-in-Solve-clause-alarm
returns-in-Solve-clause-alarm g c = alarm-left _ _ _ c.args.command _ c.in-Solve.is tt _

pub returns-in-Extract-clause-does : goal.returns-in-Extract-clause-does
returns-in-Extract-clause-does g c = as-asked (view_alarm g.A.Alarm c.args.alarm.now) (view_alarm g.A.Alarm c.args.alarm.now) _ _ _ c.args.command _ c.in-Extract.is c.run-in-Extract.ensures

pub returns-in-Extract-clause-alarm : goal.returns-in-Extract-clause-alarm
returns-in-Extract-clause-alarm g c = alarm-left _ _ _ c.args.command _ c.in-Extract.is tt _

pub returns-in-Miter-clause-does : goal.returns-in-Miter-clause-does
returns-in-Miter-clause-does g c = as-asked (view_alarm g.A.Alarm c.args.alarm.now) (view_alarm g.A.Alarm c.args.alarm.now) _ _ _ c.args.command _ c.in-Miter.is c.run-in-Miter.ensures

pub returns-in-Miter-clause-alarm : goal.returns-in-Miter-clause-alarm
returns-in-Miter-clause-alarm g c = alarm-left _ _ _ c.args.command _ c.in-Miter.is tt _

pub returns-in-Disprove-clause-does : goal.returns-in-Disprove-clause-does
returns-in-Disprove-clause-does g c = as-asked (view_alarm g.A.Alarm c.args.alarm.now) (view_alarm g.A.Alarm c.args.alarm.now) _ _ _ c.args.command _ c.in-Disprove.is c.run-in-Disprove.ensures

pub returns-in-Disprove-clause-alarm : goal.returns-in-Disprove-clause-alarm
returns-in-Disprove-clause-alarm g c = alarm-left _ _ _ c.args.command _ c.in-Disprove.is tt _

pub returns-in-DisproveShare-clause-does : goal.returns-in-DisproveShare-clause-does
returns-in-DisproveShare-clause-does g c = as-asked (view_alarm g.A.Alarm c.args.alarm.now) (view_alarm g.A.Alarm c.args.alarm.now) _ _ _ c.args.command _ c.in-DisproveShare.is c.run_part-in-DisproveShare.ensures

pub returns-in-DisproveShare-clause-alarm : goal.returns-in-DisproveShare-clause-alarm
returns-in-DisproveShare-clause-alarm g c = alarm-left _ _ _ c.args.command _ c.in-DisproveShare.is tt _

pub returns-in-Certify-clause-does : goal.returns-in-Certify-clause-does
returns-in-Certify-clause-does g c = as-asked (view_alarm g.A.Alarm c.args.alarm.now) (view_alarm g.A.Alarm c.args.alarm.now) _ _ _ c.args.command _ c.in-Certify.is c.run_certified.ensures

pub returns-in-Certify-clause-alarm : goal.returns-in-Certify-clause-alarm
returns-in-Certify-clause-alarm g c = alarm-left _ _ _ c.args.command _ c.in-Certify.is tt _

pub returns-in-Apply-clause-does : goal.returns-in-Apply-clause-does
returns-in-Apply-clause-does g c = as-asked (view_alarm g.A.Alarm c.args.alarm.now) (view_alarm g.A.Alarm c.args.alarm.now) _ _ _ c.args.command _ c.in-Apply.is c.run-in-Apply.ensures

pub returns-in-Apply-clause-alarm : goal.returns-in-Apply-clause-alarm
returns-in-Apply-clause-alarm g c = alarm-left _ _ _ c.args.command _ c.in-Apply.is tt _

pub returns-in-Demo-clause-does : goal.returns-in-Demo-clause-does
returns-in-Demo-clause-does g c = as-asked (view_alarm g.A.Alarm c.args.alarm.now) (view_alarm g.A.Alarm c.args.alarm.now) _ _ _ c.args.command _ c.in-Demo.is c.run_demo.ensures

pub returns-in-Demo-clause-alarm : goal.returns-in-Demo-clause-alarm
returns-in-Demo-clause-alarm g c = alarm-left _ _ _ c.args.command _ c.in-Demo.is tt _
