use Rattle.std.proofs.Common.{suc, drop, max, List, sym, ap₂, ◌∙◌, subst, arith}
use Rattle.q_solve.specs.declared.picks.Pick.{Pick}
use Rattle.q_solve.specs.Joins.{IsJoining}
use Rattle.q_solve.proofs.JoinedCircuits.{joining-start, joining-below, joining-more, joining-end}
use Rattle.q_solve.proofs.joining.join.Goals as goal

pub loop-end-init : goal.loop-end-init
loop-end-init c =
    subst (λ (row : List Pick). IsJoining c.args.aig.now c.args.aig.now c.args.universal.lit (suc c.args.universal.depth) c.args.second.now c.args.first.now c.args.second.now c.args.first.now row c.max-end.result) (sym c.new-joined.ensures)
    (joining-start c.args.aig.now c.args.universal.lit (suc c.args.universal.depth) c.max-end.result c.args.second.now c.args.first.now c.requires.second c.requires.first (c.max-end.ensures ∙ ap₂ max c.top.ensures c.top-2.ensures))

pub take-with-requires-clause-row : goal.take-with-requires-clause-row
take-with-requires-clause-row c =
    (joining-below c.args.aig.now c.loop-end.aig c.args.universal.lit (suc c.args.universal.depth) c.loop-end.end c.args.second.now c.args.first.now (drop c.loop-end.second_at c.args.second.now) (drop c.loop-end.first_at c.args.first.now) c.loop-end.joined c.loop-end.invariant).2

pub take-with-requires-clause-depth : goal.take-with-requires-clause-depth
take-with-requires-clause-depth c =
    (joining-below c.args.aig.now c.loop-end.aig c.args.universal.lit (suc c.args.universal.depth) c.loop-end.end c.args.second.now c.args.first.now (drop c.loop-end.second_at c.args.second.now) (drop c.loop-end.first_at c.args.first.now) c.loop-end.joined c.loop-end.invariant).0

pub take-without-requires-clause-row : goal.take-without-requires-clause-row
take-without-requires-clause-row c =
    (joining-below c.args.aig.now c.loop-end.aig c.args.universal.lit (suc c.args.universal.depth) c.loop-end.end c.args.second.now c.args.first.now (drop c.loop-end.second_at c.args.second.now) (drop c.loop-end.first_at c.args.first.now) c.loop-end.joined c.loop-end.invariant).3

pub take-without-requires-clause-depth : goal.take-without-requires-clause-depth
take-without-requires-clause-depth c =
    (joining-below c.args.aig.now c.loop-end.aig c.args.universal.lit (suc c.args.universal.depth) c.loop-end.end c.args.second.now c.args.first.now (drop c.loop-end.second_at c.args.second.now) (drop c.loop-end.first_at c.args.first.now) c.loop-end.joined c.loop-end.invariant).1

pub loop-end-smaller : goal.loop-end-smaller
loop-end-smaller c =
    (joining-more c.args.aig.now c.loop-end.aig c.choose.new.aig c.args.universal.lit (suc c.args.universal.depth) c.loop-end.end c.max-end-in-loop-end.result c.in_ok-lit.lit c.take-with.result.lit c.take-without.result.lit
    c.args.second.now c.args.first.now (drop c.loop-end.second_at c.args.second.now) (drop c.loop-end.first_at c.args.first.now) (drop c.take-with.result.next c.args.second.now) (drop c.take-without.result.next c.args.first.now) c.loop-end.joined c.push.new.self
    c.requires.universal c.requires.second_in c.requires.first_in c.loop-end.invariant c.loop-end-test.true c.take-with.ensures c.take-without.ensures c.in_ok-lit.ensures c.in_ok-push.ensures.ok (c.max-end-in-loop-end.ensures ∙ ap₂ max c.top-in-loop-end.ensures c.top-in-loop-end-2.ensures)).1

pub loop-end-preserved : goal.loop-end-preserved
loop-end-preserved c =
    (joining-more c.args.aig.now c.loop-end.aig c.choose.new.aig c.args.universal.lit (suc c.args.universal.depth) c.loop-end.end c.max-end-in-loop-end.result c.in_ok-lit.lit c.take-with.result.lit c.take-without.result.lit
    c.args.second.now c.args.first.now (drop c.loop-end.second_at c.args.second.now) (drop c.loop-end.first_at c.args.first.now) (drop c.take-with.result.next c.args.second.now) (drop c.take-without.result.next c.args.first.now) c.loop-end.joined c.push.new.self
    c.requires.universal c.requires.second_in c.requires.first_in c.loop-end.invariant c.loop-end-test.true c.take-with.ensures c.take-without.ensures c.in_ok-lit.ensures c.in_ok-push.ensures.ok (c.max-end-in-loop-end.ensures ∙ ap₂ max c.top-in-loop-end.ensures c.top-in-loop-end-2.ensures)).0

pub returns : goal.returns
returns c =
    joining-end c.args.aig.now c.loop-end.aig c.args.universal.lit (suc c.args.universal.depth) c.loop-end.end c.args.second.now c.args.first.now (drop c.loop-end.second_at c.args.second.now) (drop c.loop-end.first_at c.args.first.now) c.loop-end.joined (omega arith) c.loop-end.invariant c.loop-end-test.false
