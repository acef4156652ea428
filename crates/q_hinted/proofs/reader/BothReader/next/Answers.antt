use Rattle.std.proofs.Common.{get_or, Ok, Err, Some, None, sym, ◌+◌, ◌∙◌}
use Rattle.q_log.proofs.LogPieces.{take-one}
use Rattle.q_hinted.proofs.Fewer.{taken-fewer}
use Rattle.q_hinted.proofs.HintedPieces.{reads-more, stops-behind, answer-leads}
use Rattle.q_hinted.proofs.reader.BothReader.next.Goals as goal

pub returns-in-Ok-clause-next : goal.returns-in-Ok-clause-next
returns-in-Ok-clause-next c rest = rw (take-one c.args.piece.now c.requires.some) (c.in-Ok.ensures.next rest)

pub returns-in-Err-clause-next : goal.returns-in-Err-clause-next
returns-in-Err-clause-next c = (1, λ rest. rw (take-one c.args.piece.now c.requires.some) (c.in-Err.ensures.next rest))

pub returns-in-Ok-clause-left : goal.returns-in-Ok-clause-left
returns-in-Ok-clause-left c = taken-fewer c.args.self.now c.push.new.self (get_or c.args.piece.now 0 0) c.in-Ok.entry c.in-Ok.ensures.transition

pub loop-at-preserved : goal.loop-at-preserved
loop-at-preserved c =
    let h = rw c.in-Ok-default-None.field-0-1-is at c.in-Ok-default-None.ensures.brings in
    reads-more c.args.self.now c.loop-at.self c.pass.new.self c.args.piece.now c.loop-at.at c.in-Ok-default-None.count None c.loop-at.invariant h.1

pub returns-in-Ok-try_zero-clause-next : goal.returns-in-Ok-try_zero-clause-next
returns-in-Ok-try_zero-clause-next c =
    let h = rw c.in-Ok-default-Some.field-0-1-is at c.in-Ok-default-Some.ensures.brings in
    let n = c.loop-at.at + c.in-Ok-default-Some.count in
    let all = reads-more c.args.self.now c.loop-at.self c.pass.new.self c.args.piece.now c.loop-at.at c.in-Ok-default-Some.count (Some c.in-Ok-default-Some.token) c.loop-at.invariant h.1 in
    answer-leads c.args.self.now c.pass.new.self c.try_zero.new.self c.args.piece.now n (Some c.in-Ok-default-Some.token) (Ok c.in-Ok-try_zero.entry) all c.in-Ok-try_zero.ensures.transition

pub returns-in-Ok-try_zero-clause-state : goal.returns-in-Ok-try_zero-clause-state
returns-in-Ok-try_zero-clause-state c =
    let h = rw c.in-Ok-default-Some.field-0-1-is at c.in-Ok-default-Some.ensures.brings in
    let all = reads-more c.args.self.now c.loop-at.self c.pass.new.self c.args.piece.now c.loop-at.at c.in-Ok-default-Some.count (Some c.in-Ok-default-Some.token) c.loop-at.invariant h.1 in
    c.in-Ok-try_zero.ensures.transition.1 ∙ sym all.state

pub returns-in-Err-try_zero-clause-next : goal.returns-in-Err-try_zero-clause-next
returns-in-Err-try_zero-clause-next c =
    let h = rw c.in-Ok-default-Some.field-0-1-is at c.in-Ok-default-Some.ensures.brings in
    let n = c.loop-at.at + c.in-Ok-default-Some.count in
    let all = reads-more c.args.self.now c.loop-at.self c.pass.new.self c.args.piece.now c.loop-at.at c.in-Ok-default-Some.count (Some c.in-Ok-default-Some.token) c.loop-at.invariant h.1 in
    (n, answer-leads c.args.self.now c.pass.new.self c.try_zero.new.self c.args.piece.now n (Some c.in-Ok-default-Some.token) (Err c.in-Err-try_zero.error) all c.in-Err-try_zero.ensures.transition)

pub returns-in-Err-pass-clause-next : goal.returns-in-Err-pass-clause-next
returns-in-Err-pass-clause-next c = stops-behind c.args.self.now c.loop-at.self c.pass.new.self c.args.piece.now c.loop-at.at c.in-Err-pass.error c.loop-at.invariant c.in-Err-pass.ensures.brings
