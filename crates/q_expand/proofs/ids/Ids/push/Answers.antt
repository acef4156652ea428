use Rattle.std.proofs.Common.{◌<◌, length, arith}
use Rattle.q_expand.proofs.ClauseMarks.{noted-along, noted-pushed}
use Rattle.q_expand.proofs.ids.Ids.push.Goals as goal

pub invariant_of-self-2 : goal.invariant_of-self-2
invariant_of-self-2 c =
    let marks = c.make_room.new.marks.items in
    let ids = c.self.inside.ids.items in
    let room : c.args.id < length marks = omega (arith, c.in_ok-make_room.ensures.room, c.make_room.new.marks.ok.0) in
    let before = noted-along c.self.inside.marks.items marks ids c.make_room.ensures.same c.self.invariant in
    rw c.in_ok-push.ensures.items (noted-pushed marks ids c.args.id room before)
