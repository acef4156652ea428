use Rattle.std.proofs.Common.{get_or, ◌-◌, ◌≡◌, Ok, Err, Some, None, arith, refl}
use Rattle.std.proofs.lemmas.Grind.{common_steps}
use Rattle.q_log.specs.Reading.{LogState, Answers, open_of, token_transition}
use Rattle.q_log.proofs.LogBytes.{token-refused}
use Rattle.q_log.proofs.Fewer.{taken-fewer}
use Rattle.q_log.proofs.LogPieces.{state_of, next-leads, take-one}
use Rattle.q_log.proofs.reader.LogReader.next.Goals as goal

pub returns-in-Ok-clause-next : goal.returns-in-Ok-clause-next
returns-in-Ok-clause-next c rest = rw (take-one c.args.piece.now c.requires.some) (c.in-Ok.ensures.next rest)

pub returns-in-Err-clause-next : goal.returns-in-Err-clause-next
returns-in-Err-clause-next c = (1, λ rest. rw (take-one c.args.piece.now c.requires.some) (c.in-Err.ensures.next rest))

pub returns-in_default-token-clause-next : goal.returns-in_default-token-clause-next
returns-in_default-token-clause-next c rest =
    let v : LogState = state_of c.self.inside.tokens c.self.inside.left (open_of c.self.inside.builder.begun c.self.inside.builder.lits) c.self.inside.refused in
    let new : LogState = state_of c.next-count.new.self (c.self.inside.left - c.next-count.result.0) v.begun v.refused in
    let g = rw c.in_default-token.is at c.next-count.ensures.goes in
    next-leads v c.args.self.now new c.next-count.new.self c.args.piece.now c.next-count.result.0 None (Ok None) c.self.view_is c.in_default.is c.if-self-piece.false g (refl, refl) rest

pub returns-in-Ok-take-clause-next : goal.returns-in-Ok-take-clause-next
returns-in-Ok-take-clause-next c rest =
    let v : LogState = state_of c.self.inside.tokens c.self.inside.left (open_of c.self.inside.builder.begun c.self.inside.builder.lits) c.self.inside.refused in
    let new : LogState = state_of c.next-count.new.self (c.self.inside.left - c.next-count.result.0) (open_of c.take.new.self.begun c.take.new.self.lits) c.self.inside.refused in
    let g = rw c.in-Some-token.is at c.next-count.ensures.goes in
    let h : Answers (Ok c.in-Ok-take.step) new (token_transition (state_of c.next-count.new.self (v.left - c.next-count.result.0) v.begun v.refused) (Some c.in-Some-token.token)) = grind (arith, common_steps) in
    let r : c.self.inside.refused ≡ None = c.in_default.is in
    next-leads v c.args.self.now new c.next-count.new.self c.args.piece.now c.next-count.result.0 (Some c.in-Some-token.token) (Ok c.in-Ok-take.step) c.self.view_is r c.if-self-piece.false g h rest

pub returns-in-Err-take-clause-next : goal.returns-in-Err-take-clause-next
returns-in-Err-take-clause-next c =
    let v : LogState = state_of c.self.inside.tokens c.self.inside.left (open_of c.self.inside.builder.begun c.self.inside.builder.lits) c.self.inside.refused in
    let new : LogState = state_of c.next-count.new.self (c.self.inside.left - c.next-count.result.0) (open_of c.take.new.self.begun c.take.new.self.lits) (Some c.in-Err-take.fault) in
    let g = rw c.in-Some-token.is at c.next-count.ensures.goes in
    let r : c.self.inside.refused ≡ None = c.in_default.is in (
      c.next-count.result.0,
      λ rest. next-leads v c.args.self.now new c.next-count.new.self c.args.piece.now c.next-count.result.0 (Some c.in-Some-token.token) (Err c.in-Err-take.fault) c.self.view_is r c.if-self-piece.false g
          (token-refused c.in-Err-take.fault (state_of c.next-count.new.self (v.left - c.next-count.result.0) v.begun v.refused) c.in-Some-token.token c.in-Some-token.token.line _ _ new c.in-Err-take.ensures refl) rest,
    )

pub returns-in-Ok-clause-left : goal.returns-in-Ok-clause-left
returns-in-Ok-clause-left c = taken-fewer c.args.self.now c.push.new.self (get_or c.args.piece.now 0 0) c.in-Ok.step c.in-Ok.ensures.transition
