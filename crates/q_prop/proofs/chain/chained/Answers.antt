use Rattle.std.proofs.Common.{IsTrue}
use Rattle.q_prop.specs.Slots.{without}
use Rattle.q_prop.specs.Working.{Clashes, IsAssumed}
use Rattle.q_prop.proofs.HintSteps.{ok-chained, tautology-chained, clash-tautology, empty-list}
use Rattle.q_prop.proofs.chain.chained.Goals as goal

pub returns-then-branch : goal.returns-then-branch
returns-then-branch c =
    let clash : Clashes c.truncate.new.self c.args.lits.now = rw c.if-branch.true at c.in_ok-assume.ensures.ends in
    tautology-chained (without c.args.clauses.now.slots c.args.skip) c.args.lits.now c.args.hints.now (IsTrue c.is_empty.result)
    (clash-tautology c.args.lits.now (rw c.truncate.ensures at clash))
    (empty-list c.args.hints.now c.is_empty.result c.is_empty.ensures)

pub returns : goal.returns
returns c =
    let assumed : IsAssumed c.truncate.new.self c.args.lits.now c.assume.new.trail = rw c.if-branch.false at c.in_ok-assume.ensures.ends in
    ok-chained (without c.args.clauses.now.slots c.args.skip) c.args.lits.now c.assume.new.trail c.args.hints.now c.follow.result
    (rw c.truncate.ensures at assumed) c.follow.ensures
