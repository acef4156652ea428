use Rattle.std.proofs.Common.{refl, false, None}
use Rattle.q_sched.specs.Alarms.{AlarmView}
use Rattle.q_command.specs.Devices.{devices}
use Rattle.q_sched.proofs.AlarmTurns.{silent}
use Rattle.q_app.proofs.StoppedRequests.{keeps-whole}
use Rattle.q_app.proofs.top.run_whole.Goals as goal

abbrev never : AlarmView
never = record { asked = 0; rang = 0; limit = None; is_plain = false }

pub returns-clause-does : goal.returns-clause-does
returns-clause-does g c =
    (keeps-whole never never (devices g.F.Files g.S.Sink c.args.files.now c.args.out.now) c.run.result (devices g.F.Files g.S.Sink c.run.new.files c.run.new.out) _ (silent never never refl refl) c.run.ensures.keeps).does

pub returns-clause-simplify_ends : goal.returns-clause-simplify_ends
returns-clause-simplify_ends g c =
    (keeps-whole never never (devices g.F.Files g.S.Sink c.args.files.now c.args.out.now) c.run.result (devices g.F.Files g.S.Sink c.run.new.files c.run.new.out) _ (silent never never refl refl) c.run.ensures.keeps).simplify_ends

pub returns-clause-answer_comes : goal.returns-clause-answer_comes
returns-clause-answer_comes g c =
    (keeps-whole never never (devices g.F.Files g.S.Sink c.args.files.now c.args.out.now) c.run.result (devices g.F.Files g.S.Sink c.run.new.files c.run.new.out) _ (silent never never refl refl) c.run.ensures.keeps).answer_comes

pub returns-clause-demo_passes : goal.returns-clause-demo_passes
returns-clause-demo_passes g c =
    (keeps-whole never never (devices g.F.Files g.S.Sink c.args.files.now c.args.out.now) c.run.result (devices g.F.Files g.S.Sink c.run.new.files c.run.new.out) _ (silent never never refl refl) c.run.ensures.keeps).demo_passes
