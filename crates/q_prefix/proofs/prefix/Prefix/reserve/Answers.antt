use Rattle.std.proofs.Common.{◌+◌, arith}
use Rattle.q_prefix.proofs.PrefixChanges.{prefix-reserved}
use Rattle.q_prefix.proofs.prefix.Prefix.reserve.Goals as goal

pub invariant_of-self-in_err-grow_marks : goal.invariant_of-self-in_err-grow_marks
invariant_of-self-in_err-grow_marks c =
    prefix-reserved c.self.inside.order c.reserve.new.self c.self.inside.marks.items c.grow_marks.new.marks.items (c.args.greatest + 1) c.self.invariant c.reserve.ensures.lists c.reserve.ensures.kept_heads c.reserve.ensures.kept_room c.grow_marks.ensures.same c.grow_marks.ensures.kept c.grow_marks.ensures.exact c.in_ok-reserve.ensures.room (omega (arith, c.ranges.greatest, c.if-greatest-eq4294967295.false))

pub invariant_of-self-2 : goal.invariant_of-self-2
invariant_of-self-2 c =
    prefix-reserved c.self.inside.order c.reserve.new.self c.self.inside.marks.items c.grow_marks.new.marks.items (c.args.greatest + 1) c.self.invariant c.reserve.ensures.lists c.reserve.ensures.kept_heads c.reserve.ensures.kept_room c.grow_marks.ensures.same c.grow_marks.ensures.kept c.grow_marks.ensures.exact c.in_ok-reserve.ensures.room (omega (arith, c.ranges.greatest, c.if-greatest-eq4294967295.false))
