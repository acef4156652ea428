use Rattle.std.proofs.Common.{◌++◌, length, arith, refl}
use Rattle.q_prop.specs.Slots.{without, filled}
use Rattle.q_prop.proofs.PropagationSteps.{moved-fewer}
use Rattle.q_prop.proofs.CompleteRoot.{AreListed-kept, ready_longer, longer_within, finish}
use Rattle.q_prop.proofs.PropagationEnd.{IsReached-within}
use Rattle.q_prop.proofs.AssumedLevels.{following_assumed, following_reached, following_falsified, following_clash, negated_both, worked_not_implied}
use Rattle.q_prop.proofs.level.search_above.Goals as goal

pub returns-then-branch-clause-exact : goal.returns-then-branch-clause-exact
returns-then-branch-clause-exact c =
    (λ _. following_clash (filled (without c.args.watched.now.clauses.slots c.args.level.now.skip)) c.args.level.now.lits.now c.args.tail.now c.args.trail.now c.requires.level.following (rw c.if-branch.true at c.in_ok-assume.ensures.ends), λ _. refl)

pub propagate-requires-clause-ready : goal.propagate-requires-clause-ready
propagate-requires-clause-ready c =
    let w = c.args.watched.now in
    let a = rw c.if-branch.false at c.in_ok-assume.ensures.ends in
    rw c.len-base.ensures (ready_longer (without w.clauses.slots c.args.level.now.skip) (length c.args.trail.now) c.args.trail.now c.assume.new.trail w.clauses.pairs c.requires.level.ready (omega arith) c.assume.ensures.longer a.consistent)

pub returns-clause-moved : goal.returns-clause-moved
returns-clause-moved c =
    moved-fewer c.args.trail.now c.assume.new.trail c.args.watched.now c.propagate.new.watched (longer_within c.args.trail.now c.assume.new.trail c.assume.ensures.longer) c.propagate.ensures.advanced.moved

pub returns-clause-exact : goal.returns-clause-exact
returns-clause-exact c =
    let v = c.args.level.now in
    let i = c.requires.level in
    let w = c.args.watched.now in
    let s = without w.clauses.slots v.skip in
    let x = filled s in
    let root = c.args.trail.now in
    let known = c.assume.new.trail in
    let new = c.propagate.new.trail in
    let tail = c.args.tail.now in
    let a = rw c.if-branch.false at c.in_ok-assume.ensures.ends in
    let p = c.propagate.ensures.advanced in
    let first = longer_within root known c.assume.ensures.longer in
    let more = IsReached-within x known new p.reached in
    finish c.propagate.result (rw p.moved.same at c.propagate.ensures.ends)
    (λ f. following_falsified x (v.lits.now ++ tail) new (following_reached x (v.lits.now ++ tail) known new (following_assumed x v.lits.now tail root known i.following a) p.reached) f)
    (λ g. worked_not_implied s root new c.propagate.new.watched.clauses.pairs v.singles.now (v.lits.now ++ tail) (AreListed-kept w.clauses.slots s known w.clauses.pairs c.propagate.new.watched.clauses.pairs v.singles.now p.moved.kept i.listed) i.singles_true (λ l h. more l (first l h)) g (λ l h. more l (negated_both v.lits.now tail root known i.negated first a l h)))
