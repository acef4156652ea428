use Rattle.std.proofs.Common.{subst}
use Rattle.std.proofs.lemmas.Result.{IfOk-weaker, on_err_weaker}
use Rattle.q_io.specs.Files.{Disk, Empties}
use Rattle.q_logic.specs.Prelude.{PrenexFormula}
use Rattle.q_logic.proofs.Common.{on_err}
use Rattle.q_simplify.specs.Logs.{LeavesLog}
use Rattle.q_sched.specs.AlarmViews.{view_alarm}
use Rattle.q_simplify.specs.Results.{IsReportUntil, LeadsTo}
use Rattle.q_simplify.proofs.KernelWork.{begin-formula_left}
use Rattle.q_simplify.proofs.work.reduce_formula.Goals as goal

pub returns-in_err-kernel-clause-log_left : goal.returns-in_err-kernel-clause-log_left
returns-in_err-kernel-clause-log_left g c =
    let left : (before : Disk) → Empties c.args.log.now before (g.F.Files.held c.args.files.now) → LeavesLog c.args.formula c.args.log.now before (g.F.Files.held c.args.files.now) =
    λ before e. begin-formula_left c.args.formula c.args.log.now before (g.F.Files.held c.args.files.now) e in
    on_err _ left

pub returns-clause-report : goal.returns-clause-report
returns-clause-report g c =
    IfOk-weaker c.reduce.result _ _ (λ r h. subst (λ (F : PrenexFormula). IsReportUntil (view_alarm g.A.Alarm c.args.alarm.now) (view_alarm g.A.Alarm c.reduce.new.alarm) c.args.options.now F r.report r.formula) c.in_ok-kernel.ensures.formula h) c.reduce.ensures.report

pub returns-clause-log : goal.returns-clause-log
returns-clause-log g c =
    IfOk-weaker c.reduce.result _ _ (λ r h before e. subst (λ (F : PrenexFormula). LeadsTo F r.formula c.args.log.now before (g.F.Files.held c.reduce.new.files)) c.in_ok-kernel.ensures.formula (h before e)) c.reduce.ensures.log

pub returns-clause-log_left : goal.returns-clause-log_left
returns-clause-log_left g c =
    on_err_weaker c.reduce.result (λ h before e. subst (λ (F : PrenexFormula). LeavesLog F c.args.log.now before (g.F.Files.held c.reduce.new.files)) c.in_ok-kernel.ensures.formula (h before e)) c.reduce.ensures.log_left
