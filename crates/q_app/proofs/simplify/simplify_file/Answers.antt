use Rattle.std.proofs.Common.{◌∙◌, sym, ap, Err}
use Rattle.q_command.specs.Names.{three_of}
use Rattle.q_sched.specs.AlarmViews.{view_alarm}
use Rattle.q_app.proofs.StoppedFiles.{written-ends}
use Rattle.q_app.proofs.SimplifyTurns.{failed-is, refused-not_write, turn-failed}
use Rattle.q_app.proofs.simplify.simplify_file.Goals as goal

pub returns-in-Ok-simplify-clause-ends : goal.returns-in-Ok-simplify-clause-ends
returns-in-Ok-simplify-clause-ends g c =
    written-ends c.args.options.now c.args.names.input.now c.args.names.output.now c.args.names.log.now (view_alarm g.A.Alarm c.args.alarm.now) (view_alarm g.A.Alarm c.simplify.new.alarm) c.in-Ok-simplify.report c.in-Ok.formula
    (g.F.Files.held c.args.files.now) (g.F.Files.held c.read_input.new.files) (g.F.Files.held c.simplify.new.files) c.in-Ok.ensures.formula c.read_input.ensures.only_reads.same c.in-Ok-simplify.ensures.report

pub returns-in-Err-clause-write_fault_at : goal.returns-in-Err-clause-write_fault_at
returns-in-Err-clause-write_fault_at g c = λ e. absurd (refused-not_write c.in-Err.error (sym c.refused.ensures ∙ e))

pub returns-in-Err-simplify-clause-write_fault_at : goal.returns-in-Err-simplify-clause-write_fault_at
returns-in-Err-simplify-clause-write_fault_at g c = λ e.
    turn-failed g.F.Files.write_faults (three_of c.args.names) c.in-Ok.formula (g.F.Files.held c.args.files.now) (g.F.Files.held c.read_input.new.files) (g.F.Files.held c.simplify.new.files)
    c.args.files.now c.read_input.new.files c.simplify.new.files c.read_input.ensures.only_reads.same c.read_input.ensures.only_reads.later.write c.in-Ok.ensures.formula
    (c.in-Err-simplify.ensures.cause_at (ap Err (failed-is c.in-Err-simplify.error (sym c.failed.ensures ∙ e))))
