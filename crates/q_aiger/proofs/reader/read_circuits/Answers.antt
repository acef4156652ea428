use Rattle.std.proofs.lemmas.Result.{err_from_is_err_and}
use Rattle.q_aiger.proofs.ResolvedOperands.{fails-with}
use Rattle.q_aiger.proofs.reader.read_circuits.Goals as goal

pub returns-in_err-written-clause-err : goal.returns-in_err-written-clause-err
returns-in_err-written-clause-err c =
    let r = err_from_is_err_and c.from_residual.result c.from_residual.ensures.1 in
    rw (r.1, r.2) (fails-with c.args.bytes.now c.in_err-written.field-0.0 c.in_err-written.ensures.answer)
