use Rattle.std.proofs.Common.{◌<◌, length, arith}
use Rattle.q_aig.proofs.ConeSearch.{queue-room, queue-more}
use Rattle.q_aig.proofs.cones.meet.Goals as goal

pub offset_bounds-queue-reached : goal.offset_bounds-queue-reached
offset_bounds-queue-reached c = let r = queue-room _ _ _ _ c.in-Gate.g _ c.requires.queue c.requires.there c.in-Gate.ensures c.if-marks-g.false in let t : c.args.reached.tail < length c.args.queue.now = r.1 in omega arith

pub bounds-queue-reached : goal.bounds-queue-reached
bounds-queue-reached c = (queue-room _ _ _ _ c.in-Gate.g _ c.requires.queue c.requires.there c.in-Gate.ensures c.if-marks-g.false).1

pub overflow_add-result : goal.overflow_add-result
overflow_add-result c = let r = queue-room _ _ _ _ c.in-Gate.g _ c.requires.queue c.requires.there c.in-Gate.ensures c.if-marks-g.false in let t : c.args.reached.tail < length c.args.queue.now = r.1 in omega arith

pub returns-else-marks-g-clause-queue : goal.returns-else-marks-g-clause-queue
returns-else-marks-g-clause-queue c =
    let r = queue-room _ _ _ _ c.in-Gate.g _ c.requires.queue c.requires.there c.in-Gate.ensures c.if-marks-g.false in
    queue-more _ _ _ c.in-Gate.g c.requires.queue r.0 c.if-marks-g.false
