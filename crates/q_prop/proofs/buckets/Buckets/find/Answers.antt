use Rattle.std.proofs.Common.{◌≡◌, ◌≤◌, length, Some, slice_get, arith}
use Rattle.q_prop.specs.Slots.{Holds}
use Rattle.q_prop.proofs.SlotLemmas.{test_fails}
use Rattle.q_prop.proofs.BucketLemmas.{got, seek-start, seek-next, seek-past, seek-end}
use Rattle.q_prop.proofs.buckets.Buckets.find.Goals as goal

pub loop-init : goal.loop-init
loop-init c = rw (c.first-at.ensures, c.deref.ensures.value, c.bucket.ensures.value) (seek-start c.args.propagator.now c.args.lits.now c.args.self.now c.requires)

pub loop-preserved : goal.loop-preserved
loop-preserved c =
    let s = c.args.propagator.now in
    let nexts = c.args.self.now.nexts.items in
    let k = rw c.deref-in-loop.ensures.value at c.in-Some.ensures.lookup in
    let e : slice_get nexts c.loop.at ≡ Some c.in-Some.next.now = got nexts c.loop.at c.in-Some.next.now k.3.0 k.3.1 in
    let vacant = test_fails c.stands_at.result (Holds s c.loop.at c.args.lits.now) c.stands_at.ensures c.if-stands_at.false in
    seek-next s c.args.lits.now nexts c.requires.short c.loop.at c.loop.counter c.loop.invariant c.in-Some.next.now e vacant

pub returns-in_default : goal.returns-in_default
returns-in_default c =
    let k = rw c.deref-in-loop.ensures.value at c.in_default.ensures.lookup in
    seek-past c.args.propagator.now c.args.lits.now c.args.self.now.nexts.items c.requires.short c.loop.at c.loop.counter c.loop.invariant k.3

pub returns : goal.returns
returns c =
    let nexts = c.args.self.now.nexts in
    let past : length nexts.items ≤ c.loop.counter = omega (arith, c.loop-test.false, c.len-end.ensures, nexts.ok.0) in
    seek-end c.args.propagator.now c.args.lits.now nexts.items c.requires.short c.loop.at c.loop.counter c.loop.invariant past
