use Rattle.std.proofs.Common.{◌≡◌, ◌<◌, ◌+◌, ◌-◌, length, arith}
use Rattle.q_aig.proofs.ConeSearch.{queue-none, queue-tail, turn-there, explore-none, explore-turn}
use Rattle.q_aig.proofs.cones.explore.Goals as goal

pub meet-reached-requires-clause-queue : goal.meet-reached-requires-clause-queue
meet-reached-requires-clause-queue c = queue-none _ _ (omega (arith, c.requires.marks, c.requires.queue)) c.requires.unmarked

pub loop-head-init : goal.loop-head-init
loop-head-init c = explore-none _ _ _ c.args.marks.now _ _ _ _ c.requires.unmarked c.meet-reached.ensures.meeting c.meet-reached.ensures.queue

pub offset_bounds-queue-head : goal.offset_bounds-queue-head
offset_bounds-queue-head c = let t = queue-tail _ _ _ c.loop-head.invariant.rows in omega arith

pub bounds-queue-head : goal.bounds-queue-head
bounds-queue-head c = let t = queue-tail _ _ _ c.loop-head.invariant.rows in omega arith

pub meet-reached-requires-in-loop-head-clause-there : goal.meet-reached-requires-in-loop-head-clause-there
meet-reached-requires-in-loop-head-clause-there c =
    let a : length c.loop-head.marks ≡ length c.args.gates.now = omega (arith, c.requires.marks) in
    (turn-there _ c.args.gates.now c.loop-head.marks c.loop-head.queue c.loop-head.reached.tail c.loop-head.head (length c.loop-head.marks) c.requires.gates c.loop-head.invariant.rows c.loop-head-test.true a (omega arith)).0

pub meet-reached-requires-in-loop-head-2-clause-there : goal.meet-reached-requires-in-loop-head-2-clause-there
meet-reached-requires-in-loop-head-2-clause-there c =
    let a : length c.loop-head.marks ≡ length c.args.gates.now = omega (arith, c.requires.marks) in
    (turn-there _ c.args.gates.now c.loop-head.marks c.loop-head.queue c.loop-head.reached.tail c.loop-head.head (length c.meet-reached-in-loop-head.new.marks) c.requires.gates c.loop-head.invariant.rows c.loop-head-test.true a (omega arith)).1

pub loop-head-smaller : goal.loop-head-smaller
loop-head-smaller c =
    let t = queue-tail _ _ _ c.loop-head.invariant.rows in
    let lt : c.loop-head.head < length c.meet-reached.new.queue = omega arith in
    let r : length c.meet-reached.new.queue - (c.loop-head.head + 1) < length c.meet-reached.new.queue - c.loop-head.head = omega arith in r

pub loop-head-preserved : goal.loop-head-preserved
loop-head-preserved c =
    let m = c.meet-reached-in-loop-head.ensures in
    let n = c.meet-reached-in-loop-head-2.ensures in
    explore-turn c.args.gates.now c.args.lit c.args.allowed.now c.loop-head.marks _ _ c.loop-head.queue _ _ c.loop-head.reached.tail _ _ c.loop-head.reached.found _ _ c.loop-head.head c.loop-head.invariant c.loop-head-test.true m.meeting m.queue m.front m.tail n.meeting n.queue n.front n.tail
