use Rattle.std.proofs.Common.{◌≡◌, ◌∙◌, false}
use Rattle.q_rule.proofs.MarkChanges.{marked-row, marked-pushed}
use Rattle.q_rule.proofs.queue.Queue.push.Goals as goal

pub invariant_of-self-2 : goal.invariant_of-self-2
invariant_of-self-2 c =
    let marks = c.make_room.new.marks in
    let lits = c.self.inside.lits.items in
    let before = marked-row c.self.inside.marks marks lits c.self.invariant.1 c.make_room.ensures.none c.make_room.ensures.same c.self.invariant.0 in
    let none : c.set.new.self.none ≡ false = c.set.ensures.none ∙ c.make_room.ensures.none ∙ c.self.invariant.1 in (
      rw (c.in_ok-push.ensures.items, c.set.ensures.items, c.index.ensures) (marked-pushed marks.items lits c.args.lit c.in_ok-make_room.ensures.room before),
      none,
    )
