use Rattle.std.proofs.Common.{ap, Err}
use Rattle.q_run_extract.proofs.TracePieces.{finish_offends}
use Rattle.q_run_extract.proofs.trace_file.finish.Goals as goal

pub returns-in-Err-clause-refused : goal.returns-in-Err-clause-refused
returns-in-Err-clause-refused c =
    finish_offends c.in-Err.error c.refusal.result c.args.reader c.refusal.ensures (λ bytes line cause h e. c.in-Err.ensures.refused 1099511627776 bytes line cause h (ap Err e))
