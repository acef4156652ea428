use Rattle.std.proofs.Common.{◌≡◌, ◌≤◌, ◌<◌, ◌∷◌, [], length, sym, arith, true≢false, refl}
use Rattle.q_logic.specs.Prelude.{live}
use Rattle.q_kernel.specs.Prelude.{slots}
use Rattle.q_logic.proofs.Common.{test-false}
use Rattle.q_equiv.proofs.FallingLevels.{none-rise}
use Rattle.q_equiv.proofs.BinaryWalks.{walk-begun, walk-more, walk-ended}
use Rattle.q_equiv.proofs.joined.is_joined.Goals as goal

pub loop-head-init : goal.loop-head-init
loop-head-init c =
    let e : c.push.new.self ≡ c.args.from ∷ [] = rw c.clear.ensures at c.in_ok-push.ensures.ok in
    rw e (walk-begun [] (live (slots c.args.kernel.now)) c.args.from)

pub loop-head-preserved : goal.loop-head-preserved
loop-head-preserved c =
    let room : c.loop-head.head < length c.loop-head.queue = omega arith in
    walk-more [] (live (slots c.args.kernel.now)) c.args.from c.loop-head.head c.at.result c.loop-head.queue c.spread_all.new.queue c.loop-head.invariant room c.at.ensures c.in_ok-spread_all.ensures

pub returns-then-has : goal.returns-then-has
returns-then-has c = ((λ t. c.loop-head.invariant.linked c.args.to (c.has.ensures.0 c.if-has.true)), (λ j. refl))

pub returns-then-head-len : goal.returns-then-head-len
returns-then-head-len c =
    let past : length c.loop-head.queue ≤ c.loop-head.head = omega arith in
    ((λ t. absurd (true≢false (sym t))), (λ j. absurd (test-false c.has.result c.has.ensures c.if-has.false (walk-ended [] (live (slots c.args.kernel.now)) c.args.from c.loop-head.head c.loop-head.queue c.args.to (none-rise (live (slots c.args.kernel.now))) refl c.loop-head.invariant past j))))
