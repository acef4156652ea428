use Rattle.std.proofs.Common.{sym, arith, refl, true≢false}
use Rattle.q_prop.specs.Slots.{filled}
use Rattle.q_prop.proofs.SlotLemmas.{slice_get-there}
use Rattle.q_judge.proofs.FinishedWalk.{walk-begun, walk-more, walk-refuted, walk-ended}
use Rattle.q_judge.proofs.reach.is_reducible.Goals as goal

pub loop-head-init : goal.loop-head-init
loop-head-init c = walk-begun c.args.view.now.prefix (filled c.args.view.now.slots) c.args.clause.now c.args.lit c.push_inner.new.trail (rw (c.scope.ensures, c.truncate.ensures) at c.in_ok-push_inner.ensures)

pub returns-then-head-len : goal.returns-then-head-len
returns-then-head-len c =
    let r = walk-ended c.args.view.now.prefix (filled c.args.view.now.slots) c.args.clause.now c.args.lit c.loop-head.head c.loop-head.trail c.loop-head.invariant (omega (arith, c.if-head-len.true, c.len.ensures)) c.requires.universal c.requires.held c.requires.not_negated in
    ((λ t. r), (λ x. refl))

pub returns-then-separate : goal.returns-then-separate
returns-then-separate c = ((λ t. c.separate.ensures c.if-separate.true), (λ h. refl))

pub returns-then-not-branch : goal.returns-then-not-branch
returns-then-not-branch c =
    let k = slice_get-there c.loop-head.trail c.loop-head.head (omega (arith, c.if-head-len.false, c.len.ensures)) in
    let v = rw c.if-not-branch.true at c.in_ok-visit.ensures k.0 k.1 in
    ((λ t. absurd (true≢false (sym t))), (λ r. absurd (walk-refuted c.args.view.now.prefix (filled c.args.view.now.slots) c.args.clause.now c.args.lit c.loop-head.head k.0 c.loop-head.trail c.visit.new.trail c.loop-head.invariant k.1 v r)))

pub loop-head-preserved : goal.loop-head-preserved
loop-head-preserved c =
    let k = slice_get-there c.loop-head.trail c.loop-head.head (omega (arith, c.if-head-len.false, c.len.ensures)) in
    let v = rw c.if-not-branch.false at c.in_ok-visit.ensures k.0 k.1 in
    walk-more c.args.view.now.prefix (filled c.args.view.now.slots) c.args.clause.now c.args.lit c.loop-head.head k.0 c.loop-head.trail c.visit.new.trail c.loop-head.invariant k.1 v
