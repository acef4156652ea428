use Rattle.std.proofs.Common.{sym, subst, take}
use Rattle.q_hinted.specs.Reading.{BothState}
use Rattle.q_run_apply.specs.Readings.{Advances}
use Rattle.q_run_apply.proofs.ApplyReading.{advances_passed, advances_taken, refuses_taken, refuses_byte}
use Rattle.q_run_apply.proofs.reading.Reading.take_some.Goals as goal

pub returns-in-Ok-None-clause-ok : goal.returns-in-Ok-None-clause-ok
returns-in-Ok-None-clause-ok c =
    advances_passed c.args.self.now c.push.new.self c.args.piece.now c.in-Ok-None.field-0 c.requires.goes_on c.in-Ok-None.field-0-is c.requires.some c.in-Ok-None.ensures.transition c.in-Ok-None.ensures.next

pub returns-in-Ok-clause-ok : goal.returns-in-Ok-clause-ok
returns-in-Ok-clause-ok c =
    subst (λ (r : BothState). Advances c.args.self.now (record { reader = r; maker = c.take.new.self }) (take 1 c.args.piece.now)) (sym c.keep.ensures)
    (advances_taken c.args.self.now c.push.new.self c.take.new.self c.args.piece.now c.in-Ok-Some.field-0 _ c.requires.goes_on c.in-Ok.ensures.goes c.in-Ok-Some.field-0-is c.requires.some c.in-Ok-Some.ensures.transition c.in-Ok-Some.ensures.next)

pub returns-in-Err-take-clause-refused : goal.returns-in-Err-take-clause-refused
returns-in-Err-take-clause-refused c =
    refuses_taken c.args.self.now c.push.new.self c.args.piece.now c.in-Err-take.outcome c.in-Ok-Some.field-0 _ c.in-Err-take.ensures.convicts c.in-Ok-Some.field-0-is c.requires.some c.in-Ok-Some.ensures.next

pub returns-in-Err-clause-refused : goal.returns-in-Err-clause-refused
returns-in-Err-clause-refused c =
    refuses_byte c.args.self.now c.push.new.self c.args.piece.now c.in-Err.error c.log_refusal.result c.requires.goes_on c.log_refusal.ensures.is c.requires.some c.in-Err.ensures.transition c.in-Err.ensures.next
