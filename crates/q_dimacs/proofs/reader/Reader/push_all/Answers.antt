use Rattle.std.proofs.lemmas.Result.{err_from_is_err_and}
use Rattle.q_dimacs.proofs.FedBytes.{piece-err, piece-ok}
use Rattle.q_dimacs.proofs.reader.Reader.push_all.Goals as goal

pub returns-in_err-at : goal.returns-in_err-at
returns-in_err-at c =
    let r = err_from_is_err_and c.from_residual.result c.from_residual.ensures.1 in
    rw (r.1, r.2) (piece-err c.args.self.now c.loop-at.self c.push_some.new.self c.args.piece.now c.loop-at.at c.in_err-at.field-0.0 c.loop-at.invariant.0 c.in_err-at.ensures)

pub loop-at-preserved : goal.loop-at-preserved
loop-at-preserved c = piece-ok c.args.self.now c.loop-at.self c.push_some.new.self c.args.piece.now c.loop-at.at c.in_ok-at.field-0 c.loop-at.invariant.2 c.loop-at.invariant.0 c.in_ok-at.ensures
