use Rattle.q_logic.proofs.Common.{on_err}
use Rattle.q_io.specs.Files.{Disk, Empties}
use Rattle.q_sched.specs.AlarmViews.{view_alarm}
use Rattle.q_simplify.specs.Logs.{LeavesLog}
use Rattle.q_kernel.specs.Prelude.{formula_in}
use Rattle.q_simplify.proofs.LogFile.{has_log-left, has_log-whole}
use Rattle.q_simplify.proofs.KernelWork.{swept-ready, swept-fell, begin-left, begin-swept, no_bytes, reports-until}
use Rattle.q_simplify.proofs.work.reduce.Goals as goal

pub follow-requires-clause-ready : goal.follow-requires-clause-ready
follow-requires-clause-ready g c = swept-ready c.args.kernel.now c.sweep.new.self c.in_ok-sweep.ensures.formula c.requires.limits

pub follow-requires-clause-fell : goal.follow-requires-clause-fell
follow-requires-clause-fell g c =
    swept-fell c.args.options.now.bounds _ c.args.kernel.now c.sweep.new.self c.first_measure-before.ensures.value c.in_ok-sweep.ensures.formula

pub returns-in_err-sweep-clause-log_left : goal.returns-in_err-sweep-clause-log_left
returns-in_err-sweep-clause-log_left g c =
    let left : (before : Disk) → Empties c.args.log.now before (g.F.Files.held c.args.files.now) → LeavesLog (formula_in c.args.kernel.now) c.args.log.now before (g.F.Files.held c.args.files.now) =
    λ before e. begin-left c.args.log.now before c.args.kernel.now (g.F.Files.held c.args.files.now) c.requires.text e in
    on_err _ left

pub returns-in_err-last-clause-log_left : goal.returns-in_err-last-clause-log_left
returns-in_err-last-clause-log_left g c =
    let left : (before : Disk) → Empties c.args.log.now before (g.F.Files.held c.args.files.now) → LeavesLog (formula_in c.args.kernel.now) c.args.log.now before (g.F.Files.held c.follow.new.files) =
    λ before e. c.in_err-last.ensures.goes_on.left _ before (begin-swept c.args.log.now before c.args.kernel.now c.sweep.new.self (g.F.Files.held c.args.files.now) c.requires.text c.in_ok-sweep.ensures.led e) in
    on_err _ left

pub returns-in_err-flush-clause-log_left : goal.returns-in_err-flush-clause-log_left
returns-in_err-flush-clause-log_left g c =
    let left : (before : Disk) → Empties c.args.log.now before (g.F.Files.held c.args.files.now) → LeavesLog (formula_in c.args.kernel.now) c.args.log.now before (g.F.Files.held c.flush.new.files) =
    λ before e. c.in_err-flush.ensures.goes_on.left _ before (c.in_ok-last.ensures.goes_on.log _ before (begin-swept c.args.log.now before c.args.kernel.now c.sweep.new.self (g.F.Files.held c.args.files.now) c.requires.text c.in_ok-sweep.ensures.led e)) in
    on_err _ left

pub returns-in_err-formula-clause-log_left : goal.returns-in_err-formula-clause-log_left
returns-in_err-formula-clause-log_left g c =
    let left : (before : Disk) → Empties c.args.log.now before (g.F.Files.held c.args.files.now) → LeavesLog (formula_in c.args.kernel.now) c.args.log.now before (g.F.Files.held c.flush.new.files) =
    λ before e. has_log-left (formula_in c.args.kernel.now) c.args.log.now before c.flush.new.kernel (g.F.Files.held c.flush.new.files)
    (c.in_ok-flush.ensures.goes_on.log _ before (c.in_ok-last.ensures.goes_on.log _ before (begin-swept c.args.log.now before c.args.kernel.now c.sweep.new.self (g.F.Files.held c.args.files.now) c.requires.text c.in_ok-sweep.ensures.led e))) in
    on_err _ left

pub returns-clause-report : goal.returns-clause-report
returns-clause-report g c =
    reports-until (view_alarm g.A.Alarm c.args.alarm.now) (view_alarm g.A.Alarm c.follow.new.alarm) c.written_within_limits_is_read.ensures c.args.options.now (formula_in c.args.kernel.now) c.in_ok-formula.formula c.sweep.new.self c.follow.new.kernel c.flush.new.kernel c.in_ok-last.last (record { ending = c.ending_of.result; before = c.first_measure-before.result; after = c.measure.result })
    c.in_ok-sweep.ensures.formula c.follow.ensures.ready c.in_ok-last.ensures.stops c.flush.ensures.prefix c.flush.ensures.clauses c.sound.ensures c.in_ok-formula.ensures c.first_measure-before.ensures.value c.measure.ensures c.ending_of.ensures

pub returns-clause-log : goal.returns-clause-log
returns-clause-log g c =
    λ before e. has_log-whole (formula_in c.args.kernel.now) c.in_ok-formula.formula c.args.log.now before c.flush.new.kernel (g.F.Files.held c.flush.new.files)
    (c.in_ok-flush.ensures.goes_on.log _ before (c.in_ok-last.ensures.goes_on.log _ before (begin-swept c.args.log.now before c.args.kernel.now c.sweep.new.self (g.F.Files.held c.args.files.now) c.requires.text c.in_ok-sweep.ensures.led e)))
    (no_bytes c.flush.new.kernel.text c.in_ok-flush.ensures.short) c.in_ok-formula.ensures
