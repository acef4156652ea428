use Rattle.std.proofs.Common.{◌≡◌, ◌≤◌, ◌<◌, ◌∷◌, [], length, arith}
use Rattle.q_logic.specs.Prelude.{live}
use Rattle.q_kernel.specs.Prelude.{slots}
use Rattle.q_equiv.proofs.BinaryWalks.{walk-begun, walk-more, walk-ended}
use Rattle.q_equiv.proofs.joined.gather.Goals as goal

pub loop-head-init : goal.loop-head-init
loop-head-init c =
    let e : c.push.new.self ≡ c.args.from ∷ [] = rw c.clear.ensures at c.in_ok-push.ensures.ok in
    rw e (walk-begun c.args.levels.now (live (slots c.args.kernel.now)) c.args.from)

pub loop-head-preserved : goal.loop-head-preserved
loop-head-preserved c =
    let room : c.loop-head.head < length c.loop-head.queue = omega arith in
    walk-more c.args.levels.now (live (slots c.args.kernel.now)) c.args.from c.loop-head.head c.at-next.result c.loop-head.queue c.spread.new.queue c.loop-head.invariant room c.at-next.ensures c.in_ok-spread.ensures

pub returns-then-head-len : goal.returns-then-head-len
returns-then-head-len c =
    let past : length c.loop-head.queue ≤ c.loop-head.head = omega arith in
    record {
      linked = c.loop-head.invariant.linked;
      level = c.loop-head.invariant.level;
      all_there = λ f k e j. walk-ended c.args.levels.now (live (slots c.args.kernel.now)) c.args.from c.loop-head.head c.loop-head.queue k f e c.loop-head.invariant past j;
    }
