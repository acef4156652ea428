use Rattle.std.proofs.Common.{◌≡◌, inr, ap, Result, Err}
use Rattle.std.proofs.lemmas.Result.{err_from_is_err_and}
use Rattle.q_io.specs.declared.error.DeviceError.TheVariants as device
use Rattle.q_io.proofs.FaultCounts.{rose_later}
use Rattle.std.proofs.lemmas.Option.{IfSome_then}
use Rattle.q_logic.proofs.Common.{on_err}
use Rattle.q_sched.specs.AlarmViews.{view_alarm}
use Rattle.q_simplify.proofs.BothFiles.{simplifies-until, leaves-not_created, leaves-log, leaves-part, log-stands}
use Rattle.q_simplify.proofs.work.simplify.Goals as goal

err-same : {T E : Type 0} (w v : E) (r : Result T E) → r ≡ Err w → r ≡ Err v → w ≡ v
err-same w v r a b = cc

pub returns-in_err-create-clause-left : goal.returns-in_err-create-clause-left
returns-in_err-create-clause-left g c =
    on_err _ (IfSome_then (g.F.Files.held c.args.files.now) c.in_err-create.ensures.err (λ before m. leaves-not_created c.args.formula c.args.output.now c.args.log.now before _ c.requires.names m))

pub returns-in_err-reduced-clause-left : goal.returns-in_err-reduced-clause-left
returns-in_err-reduced-clause-left g c =
    on_err _ (IfSome_then (g.F.Files.held c.args.files.now) c.in_ok-create.ensures.empty (λ before e. leaves-log c.args.formula c.args.output.now c.args.log.now before _ c.requires.names (c.in_err-reduced.ensures.log_left before e)))

pub returns-in_err-write_output-clause-left : goal.returns-in_err-write_output-clause-left
returns-in_err-write_output-clause-left g c =
    on_err _ (IfSome_then (g.F.Files.held c.args.files.now) c.in_ok-create.ensures.empty (λ before e. leaves-part c.args.formula c.in_ok-reduced.reduced.formula c.args.output.now c.args.log.now before _ _ c.requires.names (c.in_ok-reduced.ensures.log before e) c.in_err-write_output.ensures.part))

pub returns-clause-report : goal.returns-clause-report
returns-clause-report g c =
    IfSome_then (g.F.Files.held c.args.files.now) c.in_ok-create.ensures.empty (λ before e. simplifies-until (view_alarm g.A.Alarm c.args.alarm.now) (view_alarm g.A.Alarm c.reduce_formula.new.alarm) c.args.options.now c.args.formula c.in_ok-reduced.reduced.formula c.in_ok-reduced.reduced.report c.args.output.now c.args.log.now before _ _ c.requires.names c.requires.proper c.in_ok-reduced.ensures.report (c.in_ok-reduced.ensures.log before e) c.in_ok-write_output.ensures.whole)

pub returns-in_err-write_output-clause-cause_at : goal.returns-in_err-write_output-clause-cause_at
returns-in_err-write_output-clause-cause_at g c = λ e.
    let r = err_from_is_err_and c.from_residual-in_err-write_output.result c.from_residual-in_err-write_output.ensures.1 in
    let same = r.2 in
    let failed : r.0 ≡ device.Failed = err-same r.0 device.Failed c.from_residual-in_err-write_output.result r.1 e in
    let f : c.in_err-write_output.field-0.0 ≡ device.Failed = cc in
    inr (
      IfSome_then (g.F.Files.held c.args.files.now) c.in_ok-create.ensures.empty (λ before m. log-stands c.args.formula c.in_ok-reduced.reduced.formula c.args.output.now c.args.log.now before _ _ c.requires.names (c.in_ok-reduced.ensures.log before m) c.in_err-write_output.ensures.part),
      rose_later _ _ _ (c.create.ensures.later.write c.args.output.now) (rose_later _ _ _ (c.reduce_formula.ensures.later.write c.args.output.now) (c.in_err-write_output.ensures.cause (ap Err f))),
    )
