use Rattle.std.proofs.Common.{length, arith, refl}
use Rattle.q_prop.specs.Slots.{without, filled}
use Rattle.q_prop.proofs.PropagationSteps.{moved-fewer, moved-trans}
use Rattle.q_prop.proofs.CompleteRoot.{ready_longer, longer_within, clash_implied}
use Rattle.q_prop.proofs.PropagationEnd.{IsReached-within}
use Rattle.q_prop.proofs.AssumedLevels.{following_begun, following_falsified, implied_joined, level_begun}
use Rattle.q_prop.proofs.level.search_each.Goals as goal

pub returns-then-branch-clause-exact : goal.returns-then-branch-clause-exact
returns-then-branch-clause-exact c =
    let v = c.args.level.now in
    let x = filled (without c.args.watched.now.clauses.slots v.skip) in
    let all = clash_implied x c.args.trail.now v.lits.now c.requires.rooted.derived (rw c.if-branch.true at c.in_ok-assume.ensures.ends) in
    (λ _ t h. implied_joined x v.lits.now t all, λ _. refl)

pub propagate-requires-clause-ready : goal.propagate-requires-clause-ready
propagate-requires-clause-ready c =
    let w = c.args.watched.now in
    let a = rw c.if-branch.false at c.in_ok-assume.ensures.ends in
    rw c.len-root.ensures (ready_longer (without w.clauses.slots c.args.level.now.skip) (length c.args.trail.now) c.args.trail.now c.assume.new.trail w.clauses.pairs c.requires.rooted.ready (omega arith) c.assume.ensures.longer a.consistent)

pub returns-in_err-propagate-clause-moved : goal.returns-in_err-propagate-clause-moved
returns-in_err-propagate-clause-moved c =
    moved-fewer c.args.trail.now c.assume.new.trail c.args.watched.now c.propagate.new.watched (longer_within c.args.trail.now c.assume.new.trail c.assume.ensures.longer) c.propagate.ensures.advanced.moved

pub returns-then-branch-2-clause-moved : goal.returns-then-branch-2-clause-moved
returns-then-branch-2-clause-moved c =
    moved-fewer c.args.trail.now c.assume.new.trail c.args.watched.now c.propagate.new.watched (longer_within c.args.trail.now c.assume.new.trail c.assume.ensures.longer) c.propagate.ensures.advanced.moved

pub returns-then-branch-2-clause-exact : goal.returns-then-branch-2-clause-exact
returns-then-branch-2-clause-exact c =
    let v = c.args.level.now in
    let x = filled (without c.args.watched.now.clauses.slots v.skip) in
    let a = rw c.if-branch.false at c.in_ok-assume.ensures.ends in
    let p = c.propagate.ensures.advanced in
    let f = rw (c.if-branch-2.true, p.moved.same) at c.in_ok-propagate.ensures.ends in
    let follows = following_begun x v.lits.now c.args.trail.now c.assume.new.trail c.propagate.new.trail c.requires.rooted.derived a p.reached in
    let all = following_falsified x v.lits.now c.propagate.new.trail follows f in
    (λ _ t h. implied_joined x v.lits.now t all, λ _. refl)

pub each_above-requires-clause-level : goal.each_above-requires-clause-level
each_above-requires-clause-level c =
    let a = rw c.if-branch.false at c.in_ok-assume.ensures.ends in
    let g = rw c.if-branch-2.false at c.in_ok-propagate.ensures.ends in
    level_begun c.args.watched.now c.args.level.now c.args.trail.now c.assume.new.trail c.propagate.new.watched c.propagate.new.trail c.requires.rooted c.assume.ensures.longer a c.propagate.ensures.advanced g

pub returns-clause-moved : goal.returns-clause-moved
returns-clause-moved c =
    let p = c.propagate.ensures.advanced in
    let w = c.args.watched.now in
    let first = longer_within c.args.trail.now c.assume.new.trail c.assume.ensures.longer in
    let begun = moved-fewer c.args.trail.now c.assume.new.trail w c.propagate.new.watched first p.moved in
    moved-trans c.args.trail.now c.propagate.new.trail w c.propagate.new.watched c.each_above.new.watched (λ l h. IsReached-within (filled (without w.clauses.slots c.args.level.now.skip)) c.assume.new.trail c.propagate.new.trail p.reached l (first l h)) begun c.each_above.ensures.moved

pub returns-clause-exact : goal.returns-clause-exact
returns-clause-exact c = rw c.propagate.ensures.advanced.moved.same at c.each_above.ensures.exact
