use Rattle.std.proofs.Common.{ap, Err}
use Rattle.std.proofs.lemmas.Result.{err_from_is_err_and}
use Rattle.q_simplify.proofs.LogFile.{has_log-written, has_log-part, stopped}
use Rattle.q_simplify.proofs.log_file.flush.Goals as goal

pub returns-in_err-append-clause-goes_on : goal.returns-in_err-append-clause-goes_on
returns-in_err-append-clause-goes_on g c =
    let p = err_from_is_err_and c.from_residual.result c.from_residual.ensures.1 in
    stopped _ _ _ _ _ _ _ _ _ p.0 _ p.1 p.2
    (λ F first h. has_log-part F c.args.name.now first c.args.kernel.now c.log-2.result.now _ _ h c.in_err-append.ensures.err c.log-2.ensures)
    (λ e. c.in_err-append.ensures.cause (ap Err e)) c.in_err-append.ensures.later

pub returns-clause-goes_on : goal.returns-clause-goes_on
returns-clause-goes_on g c =
    record {
      log = λ F first h. has_log-written F c.args.name.now first c.args.kernel.now c.clear_log.new.self c.log-2.result.now _ _ h c.in_ok-append.ensures.all c.log-2.ensures c.clear_log.ensures.text c.clear_log.ensures.prefix c.clear_log.ensures.clauses;
      left = λ F first h. tt;
      cause = λ e. cc;
      later = c.in_ok-append.ensures.later;
    }
