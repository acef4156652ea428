use Rattle.std.proofs.Common.{Some, ◌+◌}
use Rattle.std.proofs.lemmas.Result.{err_from_is_err_and}
use Rattle.q_text.specs.Pieces.{literal_token}
use Rattle.q_text.specs.Tokens.{line_of}
use Rattle.q_dimacs.proofs.FedBytes.{takes-ok, takes-err, roomy, ahead-goes}
use Rattle.q_dimacs.proofs.reader.Reader.push_literal.Goals as goal

pub returns-in_err-take_literal : goal.returns-in_err-take_literal
returns-in_err-take_literal c =
    let r = err_from_is_err_and c.from_residual.result c.from_residual.ensures.1 in
    let g = ahead-goes _ c.args.self.now c.pass_literal.new.self c.args.piece.now c.args.word c.self.view_is c.pass_literal.ensures c.requires.ahead in
    rw (r.1, r.2)
    (takes-err _ c.args.self.now c.take_literal.new.self c.pass_literal.new.self c.args.piece.now (c.args.word.len + 1) (Some (literal_token c.args.word.lit (line_of c.pass_literal.new.self))) c.in_err-take_literal.field-0.0 c.self.view_is c.requires.reading (roomy _ c.args.self.now c.args.piece.now c.self.view_is c.requires.room) g c.in_err-take_literal.ensures)

pub returns : goal.returns
returns c =
    let g = ahead-goes _ c.args.self.now c.pass_literal.new.self c.args.piece.now c.args.word c.self.view_is c.pass_literal.ensures c.requires.ahead in
    let e = c.in_ok-take_literal.ensures in
    takes-ok _ c.args.self.now c.take_literal.new.self c.pass_literal.new.self c.args.piece.now (c.args.word.len + 1) (Some (literal_token c.args.word.lit (line_of c.pass_literal.new.self))) c.self.view_is c.requires.reading (roomy _ c.args.self.now c.args.piece.now c.self.view_is c.requires.room) g e.0 e.1
