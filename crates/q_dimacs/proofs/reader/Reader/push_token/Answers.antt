use Rattle.std.proofs.lemmas.Result.{err_from_is_err_and}
use Rattle.std.proofs.Common.{refl, Some, None, ◌∙◌, ap}
use Rattle.q_dimacs.specs.Scanning.{Scan}
use Rattle.q_dimacs.proofs.FedBytes.{takes-ok, takes-err, roomy}
use Rattle.q_dimacs.proofs.reader.Reader.push_token.Goals as goal

pub returns-in_err-take-in-Some : goal.returns-in_err-take-in-Some
returns-in_err-take-in-Some c =
    let r = err_from_is_err_and c.from_residual.result c.from_residual.ensures.1 in
    let g = rw c.in-Some.is at c.next-count.ensures.goes in
    rw (r.1, r.2) (takes-err _ c.args.self.now c.take.new.self c.next-count.new.self c.args.piece.now c.next-count.result.0 (Some c.in-Some.token) c.in_err-take-in-Some.field-0.0 c.self.view_is c.requires.reading (roomy _ c.args.self.now c.args.piece.now c.self.view_is c.requires.room) g c.in_err-take-in-Some.ensures)

pub returns-in-None : goal.returns-in-None
returns-in-None c =
    let g = rw c.in-None.is at c.next-count.ensures.goes in
    takes-ok _ c.args.self.now _ c.next-count.new.self c.args.piece.now c.next-count.result.0 None c.self.view_is c.requires.reading (roomy _ c.args.self.now c.args.piece.now c.self.view_is c.requires.room) g refl (ap (λ (t : Scan). t.standing) c.self.view_is ∙ c.requires.reading)

pub returns-in_ok-take-in-Some : goal.returns-in_ok-take-in-Some
returns-in_ok-take-in-Some c =
    let g = rw c.in-Some.is at c.next-count.ensures.goes in
    let e = c.in_ok-take-in-Some.ensures in
    takes-ok _ c.args.self.now c.take.new.self c.next-count.new.self c.args.piece.now c.next-count.result.0 (Some c.in-Some.token) c.self.view_is c.requires.reading (roomy _ c.args.self.now c.args.piece.now c.self.view_is c.requires.room) g e.0 e.1
