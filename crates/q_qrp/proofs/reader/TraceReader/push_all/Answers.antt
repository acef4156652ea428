use Rattle.std.proofs.Common.{sym, ap, ◌∙◌, add-one, get_or}
use Rattle.std.proofs.lemmas.Result.{err_from_is_err_and}
use Rattle.q_qrp.specs.Scanning.{Scan, byte_step, goes_on}
use Rattle.q_qrp.proofs.FedBytes.{finished-early, feeds-later, fed-next}
use Rattle.q_qrp.proofs.reader.TraceReader.push_all.Goals as goal

pub returns-then-is_finished : goal.returns-then-is_finished
returns-then-is_finished c = finished-early c.args.self.now c.loop-byte.self c.args.piece.now c.loop-byte.byte-index c.loop-byte.invariant.0 (sym c.is_finished.ensures.value ∙ c.if-is_finished.true)

pub returns-in_err-push : goal.returns-in_err-push
returns-in_err-push c =
    let r = err_from_is_err_and c.from_residual.result c.from_residual.ensures.1 in
    rw (r.1, r.2) (feeds-later c.args.self.now c.loop-byte.self c.push.new.self c.in_err-push.field-0.0 c.args.piece.now c.loop-byte.byte-index c.loop-byte.invariant.0 c.loop-byte-test.true c.in_err-push.ensures)

pub loop-byte-preserved : goal.loop-byte-preserved
loop-byte-preserved c =
    let b = get_or c.args.piece.now c.loop-byte.byte-index 0 in
    let e = fed-next c.args.self.now c.args.piece.now c.loop-byte.byte-index c.loop-byte-test.true in
    let i = c.in_ok-push.ensures.0 ∙ (ap (λ (s : Scan). byte_step s b) c.loop-byte.invariant.0 ∙ sym e) in
    (rw (add-one c.loop-byte.byte-index) i, ap (λ (s : Scan). goes_on s.standing) c.in_ok-push.ensures.0 ∙ c.in_ok-push.ensures.1)
