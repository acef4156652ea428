use Rattle.std.proofs.Common.{arith, sym, subst, take, ◌++◌}
use Rattle.q_binary.specs.Forms.{ProofState, to_come}
use Rattle.q_hinted.specs.Logs.{Entry as BothEntry}
use Rattle.q_run_disprove.proofs.DisproofReading.{leads-some}
use Rattle.q_run_show.specs.Readings.{Advances}
use Rattle.q_run_show.proofs.ProofReading.{advances_passed, advances_taken, tells_piece, tells_offence}
use Rattle.q_run_show.proofs.reading.Reading.take_some.Goals as goal

pub returns-in-Ok-default-None-clause-ok : goal.returns-in-Ok-default-None-clause-ok
returns-in-Ok-default-None-clause-ok c =
    advances_passed c.args.self.now c.next.new.self c.args.piece.now c.in-Ok-default-None.count c.in-Ok-default-None.field-0-1 c.requires.goes_on c.in-Ok-default-None.field-0-1-is
    c.in-Ok-default-None.ensures.next c.in-Ok-default-None.ensures.left c.in-Ok-default-None.ensures.within

pub returns-in-Ok-clause-ok : goal.returns-in-Ok-clause-ok
returns-in-Ok-clause-ok c =
    let e : BothEntry = (c.in-Ok-default-Some.line, c.in-Ok-default-Some.step, c.in-Ok-default-Some.proof) in
    subst (λ (r : ProofState). Advances c.args.self.now (record { reader = r; scribe = c.take.new.self }) (take c.in-Ok-default-Some.count c.args.piece.now)) (sym c.keep.ensures)
    (advances_taken c.args.self.now c.next.new.self c.take.new.self c.args.piece.now c.in-Ok-default-Some.count c.in-Ok-default-Some.field-0-1 e
    c.requires.goes_on c.in-Ok.ensures.goes c.in-Ok-default-Some.field-0-1-is c.in-Ok-default-Some.ensures.next c.in-Ok-default-Some.ensures.left c.in-Ok-default-Some.ensures.within)

pub returns-in-Err-take-clause-tells : goal.returns-in-Err-take-clause-tells
returns-in-Err-take-clause-tells c =
    let e : BothEntry = (c.in-Ok-default-Some.line, c.in-Ok-default-Some.step, c.in-Ok-default-Some.proof) in
    tells_piece c.args.self.now c.args.piece.now c.in-Ok-default-Some.count c.in-Err-take.ending e (λ rest. to_come c.next.new.self rest) c.requires.goes_on c.in-Err-take.ensures.ends
    (leads-some c.in-Ok-default-Some.field-0-1 (λ rest. to_come c.args.self.now.reader (take c.in-Ok-default-Some.count c.args.piece.now ++ rest)) (λ rest. to_come c.next.new.self rest) e c.in-Ok-default-Some.field-0-1-is c.in-Ok-default-Some.ensures.next)

pub returns-in-Err-clause-tells : goal.returns-in-Err-clause-tells
returns-in-Err-clause-tells c =
    tells_offence c.args.self.now c.next.new.self c.args.piece.now c.in-Err.error c.log_refusal.result c.refused.result c.requires.goes_on c.refused.ensures c.log_refusal.ensures.is c.in-Err.ensures.next

pub take-requires-clause-few : goal.take-requires-clause-few
take-requires-clause-few c = omega (arith, c.requires.goes_on.room)
