use Rattle.std.proofs.Common.{◌+◌, ◌<◌, arith, [], if◌then◌else◌}
use Rattle.q_prop.specs.Slots.{without, filled}
use Rattle.q_prop.proofs.UnknownLiterals.{missing}
use Rattle.q_prop.proofs.PlainLemmas.{searching-new, searching-quiet, searching-consistent, searching-ended, searching-end, led-smaller, led-refl}
use Rattle.q_prop.proofs.plain.search.Goals as goal

pub loop-grown-init : goal.loop-grown-init
loop-grown-init c =
    rw c.requires.empty (led-refl (without c.args.clauses.now.slots c.args.skip) c.args.trail.now [] c.requires.consistent)

pub pass-requires : goal.pass-requires
pass-requires c = searching-consistent (without c.args.clauses.now.slots c.args.skip) c.args.trail.now c.loop-grown.trail c.loop-grown.hints.items c.loop-grown.grown c.loop-grown.invariant

pub loop-grown-smaller-in-New : goal.loop-grown-smaller-in-New
loop-grown-smaller-in-New c =
    let s = without c.args.clauses.now.slots c.args.skip in
    let less = led-smaller s c.loop-grown.trail c.pass.new.trail c.loop-grown.hints.items c.pass.new.hints.items (rw c.in-New.is at c.in_ok-pass.ensures) in
    let goal' : missing c.pass.new.trail (filled s) + (if c.loop-grown.grown then 1 else 0) < missing c.loop-grown.trail (filled s) + (if c.loop-grown.grown then 1 else 0) = omega (arith, less) in
    goal'

pub loop-grown-preserved-in-New : goal.loop-grown-preserved-in-New
loop-grown-preserved-in-New c =
    let s = without c.args.clauses.now.slots c.args.skip in
    let l = c.loop-grown in
    rw c.loop-grown-test.true (searching-new s c.args.trail.now l.trail c.pass.new.trail l.hints.items c.pass.new.hints.items l.grown c.loop-grown-test.true l.invariant (rw c.in-New.is at c.in_ok-pass.ensures))

pub returns-in-Conflict : goal.returns-in-Conflict
returns-in-Conflict c =
    let s = without c.args.clauses.now.slots c.args.skip in
    let l = c.loop-grown in
    searching-ended s c.args.trail.now l.trail l.hints.items c.pass.new.hints.items l.grown c.loop-grown-test.true l.invariant (rw c.in-Conflict.is at c.in_ok-pass.ensures)

pub returns : goal.returns
returns c =
    searching-end (without c.args.clauses.now.slots c.args.skip) c.args.trail.now c.loop-grown.trail c.loop-grown.hints.items c.loop-grown.grown c.loop-grown-test.false c.loop-grown.invariant

pub loop-grown-preserved : goal.loop-grown-preserved
loop-grown-preserved c =
    let s = without c.args.clauses.now.slots c.args.skip in
    let l = c.loop-grown in
    searching-quiet s c.args.trail.now l.trail c.pass.new.trail l.hints.items c.pass.new.hints.items l.grown c.loop-grown-test.true l.invariant (rw c.in-Quiet.is at c.in_ok-pass.ensures)
