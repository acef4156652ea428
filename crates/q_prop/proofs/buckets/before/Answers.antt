use Rattle.std.proofs.Common.{◌≡◌, ◌≤◌, ℕ, length, Some, slice_get, ap, ◌∙◌, arith}
use Rattle.q_prop.proofs.BucketLemmas.{got, trace-start, trace-next, trace-found, trace-past, trace-end}
use Rattle.q_prop.proofs.buckets.before.Goals as goal

pub loop-init : goal.loop-init
loop-init c = trace-start c.args.nexts.now c.requires.short c.args.first c.args.slot c.requires.walk.0 c.requires.walk.1 c.if-first-slot.false

pub loop-preserved : goal.loop-preserved
loop-preserved c =
    let nexts = c.args.nexts.now in
    let k = c.in-Some.ensures.lookup in
    let e : slice_get nexts c.loop.at ≡ Some c.in-Some.next.now = got nexts c.loop.at c.in-Some.next.now k.3.0 k.3.1 in
    trace-next nexts c.requires.short c.args.first c.args.slot c.loop.at c.loop.counter c.loop.invariant c.in-Some.next.now e c.if-next-slot.false

pub returns-then-next-slot : goal.returns-then-next-slot
returns-then-next-slot c =
    let nexts = c.args.nexts.now in
    let k = c.in-Some.ensures.lookup in
    let e : slice_get nexts c.loop.at ≡ Some c.in-Some.next.now = got nexts c.loop.at c.in-Some.next.now k.3.0 k.3.1 in (
      e ∙ ap (λ (x : ℕ). Some x) c.if-next-slot.true,
      trace-found nexts c.requires.short c.args.first c.args.slot c.loop.at c.loop.counter c.loop.invariant c.in-Some.next.now e,
    )

pub returns-in_default : goal.returns-in_default
returns-in_default c = trace-past c.args.nexts.now c.requires.short c.args.first c.args.slot c.loop.at c.loop.counter c.loop.invariant c.in_default.ensures.lookup.3

pub returns : goal.returns
returns c =
    let past : length c.args.nexts.now ≤ c.loop.counter = omega (arith, c.loop-test.false) in
    trace-end c.args.nexts.now c.requires.short c.args.first c.args.slot c.loop.at c.loop.counter c.loop.invariant past
