use Rattle.std.proofs.Common.{◌∷◌, ◌+◌, drop, get_or, arith}
use Rattle.q_prop.specs.Slots.{without}
use Rattle.q_prop.proofs.HintSteps.{Decides, decided-last, decided-one, decided-open, decided-none, drop-item, no-case, last-hint, decided-end}
use Rattle.q_prop.proofs.chain.follow.Goals as goal

pub loop-i-preserved : goal.loop-i-preserved
loop-i-preserved c =
    let hs = c.args.hints.now in
    let s = without c.args.clauses.now.slots c.args.skip in
    let d : Decides s c.args.trail.now hs c.loop-i.trail (get_or hs c.loop-i.i 0 ∷ drop (c.loop-i.i + 1) hs) =
    rw (drop-item hs c.loop-i.i c.loop-i-test.true) at c.loop-i.invariant in
    decided-one s c.args.trail.now c.loop-i.trail c.learn.new.trail hs (drop (c.loop-i.i + 1) hs) (get_or hs c.loop-i.i 0) c.in-Some.clause.now c.in-One.lit d
    c.in-Some.ensures c.in-One.ensures c.in_ok-learn-in-One.ensures

pub returns-in_default : goal.returns-in_default
returns-in_default c =
    let hs = c.args.hints.now in
    let s = without c.args.clauses.now.slots c.args.skip in
    let d : Decides s c.args.trail.now hs c.loop-i.trail (get_or hs c.loop-i.i 0 ∷ drop (c.loop-i.i + 1) hs) =
    rw (drop-item hs c.loop-i.i c.loop-i-test.true) at c.loop-i.invariant in
    no-case (decided-none s c.args.trail.now c.loop-i.trail hs (drop (c.loop-i.i + 1) hs) (get_or hs c.loop-i.i 0) d c.in_default.ensures)

pub returns-in-Nothing : goal.returns-in-Nothing
returns-in-Nothing c =
    let hs = c.args.hints.now in
    let s = without c.args.clauses.now.slots c.args.skip in
    let d : Decides s c.args.trail.now hs c.loop-i.trail (get_or hs c.loop-i.i 0 ∷ drop (c.loop-i.i + 1) hs) =
    rw (drop-item hs c.loop-i.i c.loop-i-test.true) at c.loop-i.invariant in
    last-hint hs (c.loop-i.i + 1)
    (decided-last s c.args.trail.now c.loop-i.trail hs (drop (c.loop-i.i + 1) hs) (get_or hs c.loop-i.i 0) c.in-Some.clause.now d c.in-Some.ensures c.in-Nothing.ensures)
    (omega arith)

pub returns-in-More : goal.returns-in-More
returns-in-More c =
    let hs = c.args.hints.now in
    let s = without c.args.clauses.now.slots c.args.skip in
    let d : Decides s c.args.trail.now hs c.loop-i.trail (get_or hs c.loop-i.i 0 ∷ drop (c.loop-i.i + 1) hs) =
    rw (drop-item hs c.loop-i.i c.loop-i-test.true) at c.loop-i.invariant in
    no-case (decided-open s c.args.trail.now c.loop-i.trail hs (drop (c.loop-i.i + 1) hs) (get_or hs c.loop-i.i 0) c.in-Some.clause.now d c.in-Some.ensures c.in-More.ensures)

pub returns : goal.returns
returns c = no-case (decided-end (without c.args.clauses.now.slots c.args.skip) c.args.trail.now c.loop-i.trail c.args.hints.now c.loop-i.i c.loop-i.invariant c.loop-i-test.false)
