use Rattle.q_command.proofs.FaultTurns.{at_once}
use Rattle.std.proofs.Common.{inl, IfSome}
use Rattle.q_command.specs.Names.{three_of}
use Rattle.q_sched.specs.AlarmViews.{view_alarm}
use Rattle.q_sched.proofs.AlarmTurns.{unless-both}
use Rattle.q_app.specs.Simplifying.{Ends, Stops, told_stopped}
use Rattle.q_app.specs.Words.{simplifying}
use Rattle.q_app.proofs.CommandLines.{simplify-read, simplify-write}
use Rattle.q_command.specs.Devices.{devices}
use Rattle.q_command.specs.Sinks.{view_sink}
use Rattle.q_command.specs.Told.{Runs}
use Rattle.q_command.proofs.ToldLaws.{runs}
use Rattle.q_app.proofs.FaultFree.{laws}
use Rattle.q_app.specs.Told.{told}
use Rattle.q_app.proofs.StoppedFiles.{ended-written, heard-set, laws-stopped, unless-set}
use Rattle.q_app.proofs.top.run_simplify.Goals as goal

pub returns-clause-runs : goal.returns-clause-runs
returns-clause-runs g c =
    let o = c.simplify_file.result in
    let n = three_of c.args.asked.names in
    let old = devices g.F.Files g.S.Sink c.args.files.now c.args.out.now in
    let new = devices g.F.Files g.S.Sink c.simplify_file.new.files c.say.new.out in
    let first = view_alarm g.A.Alarm c.args.alarm.now in
    let begun = view_alarm g.A.Alarm c.set.new.self in
    let last = view_alarm g.A.Alarm c.simplify_file.new.alarm in
    let p = c.args.asked.options in
    let held = g.F.Files.held c.args.files.now in
    let after = g.F.Files.held c.simplify_file.new.files in
    let whole = Runs (told (simplifying n p)) old c.say.result new in
    let part = Runs (told_stopped n p) old c.say.result new in
    unless-set whole part first begun last c.set.ensures.rang
    (unless-both (IfSome held (λ disk. Ends o p n.input n.output n.log disk after)) (IfSome held (λ disk. Stops o p n.input n.output n.log disk after)) whole part begun last
    (λ h. runs (told (simplifying n p)) (laws (simplifying n p)) o old new c.say.result h c.say.ensures
    (λ e. c.simplify_file.ensures.read_fault (simplify-read o e)) (λ e. c.simplify_file.ensures.write_fault (simplify-write o e)) tt
    (λ e. inl (at_once (g.F.Files.held c.args.files.now), c.simplify_file.ensures.read_fault (simplify-read o e)))
    (λ e. c.simplify_file.ensures.write_fault_at (simplify-write o e)))
    (λ h. runs (told_stopped n p) (laws-stopped n p) o old new c.say.result h c.say.ensures
    (λ e. c.simplify_file.ensures.read_fault (simplify-read o e)) (λ e. c.simplify_file.ensures.write_fault (simplify-write o e)) tt
    (λ e. inl (at_once (g.F.Files.held c.args.files.now), c.simplify_file.ensures.read_fault (simplify-read o e)))
    (λ e. c.simplify_file.ensures.write_fault_at (simplify-write o e)))
    c.simplify_file.ensures.ends)

pub returns-clause-alarm : goal.returns-clause-alarm
returns-clause-alarm g c =
    heard-set _ _ _ (view_alarm g.A.Alarm c.args.alarm.now) (view_alarm g.A.Alarm c.set.new.self) (view_alarm g.A.Alarm c.simplify_file.new.alarm) c.set.ensures.asked c.set.ensures.rang c.set.ensures.limit c.set.ensures.is_plain c.simplify_file.ensures.heard
    (λ e. let w = ended-written c.simplify_file.result c.say.result (view_sink g.S.Sink c.args.out.now) (view_sink g.S.Sink c.say.new.out) c.say.ensures.answer e in c.simplify_file.ensures.asked w.0 w.1)

pub returns-clause-later : goal.returns-clause-later
returns-clause-later g c = record { read = c.simplify_file.ensures.later.read; write = c.simplify_file.ensures.later.write; sink = c.say.ensures.later.0 }
