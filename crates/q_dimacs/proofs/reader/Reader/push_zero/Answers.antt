use Rattle.std.proofs.Common.{Some}
use Rattle.std.proofs.lemmas.Result.{err_from_is_err_and}
use Rattle.q_text.specs.Pieces.{zero_token}
use Rattle.q_dimacs.proofs.FedBytes.{takes-ok, takes-err, roomy, zero-goes}
use Rattle.q_dimacs.proofs.reader.Reader.push_zero.Goals as goal

pub returns-in_err-take_zero : goal.returns-in_err-take_zero
returns-in_err-take_zero c =
    let r = err_from_is_err_and c.from_residual.result c.from_residual.ensures.1 in
    let g = zero-goes _ c.args.self.now c.pass_zero.new.self c.line-line.result c.args.piece.now c.self.view_is c.pass_zero.ensures c.line-line.ensures c.requires.ahead in
    rw (r.1, r.2)
    (takes-err _ c.args.self.now c.take_zero.new.self c.pass_zero.new.self c.args.piece.now 2 (Some (zero_token c.line-line.result)) c.in_err-take_zero.field-0.0 c.self.view_is c.requires.reading (roomy _ c.args.self.now c.args.piece.now c.self.view_is c.requires.room) g c.in_err-take_zero.ensures)

pub returns : goal.returns
returns c =
    let g = zero-goes _ c.args.self.now c.pass_zero.new.self c.line-line.result c.args.piece.now c.self.view_is c.pass_zero.ensures c.line-line.ensures c.requires.ahead in
    let e = c.in_ok-take_zero.ensures in
    takes-ok _ c.args.self.now c.take_zero.new.self c.pass_zero.new.self c.args.piece.now 2 (Some (zero_token c.line-line.result)) c.self.view_is c.requires.reading (roomy _ c.args.self.now c.args.piece.now c.self.view_is c.requires.room) g e.0 e.1
